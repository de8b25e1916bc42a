-- The stored cells of a picture (document 01, "The picture"): those whose word is not the empty word E. Assumes nothing.
use Rattle.std.specs.Prelude.{ℕ, zero, suc, List, [], ◌∷◌, length, take, eqb}
use Rattle.format.specs.Tools.{pick, unless, first, others}

-- the positions of the stored cells, rising, where the first word stands at p
unfoldable pub stored_from : ℕ → ℕ → List ℕ → List ℕ
stored_from E p [] = []
stored_from E p (x ∷ ws) = unless (eqb x E) p (stored_from E (suc p) ws)

-- L(0), L(1), ..: the position of each rank; N is their number
unfoldable pub stored : ℕ → List ℕ → List ℕ
stored E ws = stored_from E 0 ws

-- the words of the stored cells, by rank
unfoldable pub kept : ℕ → List ℕ → List ℕ
kept E [] = []
kept E (x ∷ ws) = unless (eqb x E) x (kept E ws)

-- the number of stored cells at positions lower than p: the rank of the cell at p, where it is stored
unfoldable pub rank_at : ℕ → List ℕ → ℕ → ℕ
rank_at E ws p = length (stored E (take p ws))

-- n cells from position p on: the words vs at the positions ls, E elsewhere
unfoldable pub placed_from : ℕ → ℕ → ℕ → List ℕ → List ℕ → List ℕ
placed_from E p zero ls vs = []
placed_from E p (suc n) [] vs = E ∷ placed_from E (suc p) n [] vs
placed_from E p (suc n) (l ∷ ls) vs =
    pick (eqb l p) (first vs) E
    ∷ placed_from E (suc p) n (pick (eqb l p) ls (l ∷ ls)) (pick (eqb l p) (others vs) vs)

-- the words of a picture of n cells, back from its stored positions and words
unfoldable pub placed : ℕ → ℕ → List ℕ → List ℕ → List ℕ
placed E n ls vs = placed_from E 0 n ls vs
