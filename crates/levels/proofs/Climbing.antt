-- The loop up the levels: a level that is put out stands as level 0 does, and what is left gives the whole. Assumes nothing.
use Prim.Native.Nat.{ℕ, ◌+◌, ◌-◌, ◌*◌, ◌^◌, ◌≤◌, ◌<◌}
use mathlib.Core.Path.{◌≡◌, sym, ap, ◌∙◌}
use mathlib.Core.List.{List, ◌++◌}
use native.Mathlib.Omega.{arith}
use lib.ListN.{length}
use Rattle.format.specs.Tools.{Below, up_to}
use Rattle.format.specs.Bytes.{bytes_of}
use Rattle.format.specs.Runs.{Span}
use Rattle.format.specs.PagedRuns.{level, lasts, upper_levels, upper_entries, flat_spans}
use Rattle.laws.proofs.Bytes.{bytes-append}
use Rattle.laws.proofs.Bounds.{length-upper_levels, up_to_half}
use Rattle.laws.proofs.Accumulation.{length_above, no_more_level, one_more_level, one_more_entries}
use Rattle.stores.specs.Put.{put}
use Rattle.stores.proofs.Laws.{length-put, put-append, put_comm, put-numbers_nil}
use Rattle.levels.specs.LevelZero.{level_in, pair_sum, LevelZero}
use Rattle.levels.proofs.LevelSums.{level-sum, level-small}
use Rattle.levels.proofs.LevelBytes.{flat_append, length-level_in, length-entries, put_back, level-back}

-- the entries of two lists, the second first
put_two : (d : List ℕ) (at to : ℕ) (xs ys : List Span) → at + 8 * length xs ≡ to
    → put (put d to (bytes_of 4 (flat_spans ys))) at (bytes_of 4 (flat_spans xs)) ≡ put d at (bytes_of 4 (flat_spans (xs ++ ys)))
put_two d at to xs ys e =
    let n = length-entries xs in
    let t : at + length (bytes_of 4 (flat_spans xs)) ≡ to = omega arith in
    sym (put_comm d at (bytes_of 4 (flat_spans xs)) to (bytes_of 4 (flat_spans ys)) (omega arith))
    ∙ ap (λ (i : ℕ). put (put d at (bytes_of 4 (flat_spans xs))) i (bytes_of 4 (flat_spans ys))) (sym t)
    ∙ sym (put-append d at (bytes_of 4 (flat_spans xs)) (bytes_of 4 (flat_spans ys)))
    ∙ ap (put d at) (sym (ap (bytes_of 4) (flat_append xs ys) ∙ bytes-append 4 (flat_spans xs) (flat_spans ys)))

-- d with the levels above the level of `under` entries from `below` on, put from `start` on
abbrev pub with_upper : List ℕ → ℕ → ℕ → ℕ → ℕ → List ℕ
with_upper d start b under below = put d start (bytes_of 4 (flat_spans (upper_levels b (level_in d under below))))

-- no more than one page: nothing is above
pub climbing_end : (d : List ℕ) (start b under below : ℕ) → under ≤ b → with_upper d start b under below ≡ d
climbing_end d start b under below h =
    let l : length (level_in d under below) ≤ b = rw (length-level_in d under below) h in
    rw (no_more_level b (level_in d under below) l) (unfold flat_spans in (put-numbers_nil 4 d start))

module _ (d : List ℕ) (start b under below : ℕ) (z : LevelZero d start b under below) (more : b < under) where
  above : List Span
  above = level b (lasts b (level_in d under below))

  length_up : length above ≡ up_to under b
  unfolding above
  length_up = length_above b (level_in d under below) (omega (arith, z.stands.step-least)) ∙ rw (length-level_in d under below)

  entries_up : upper_entries b under ≡ upper_entries b (up_to under b) + up_to under b
  entries_up = one_more_entries b under z.stands.step-least more

  -- the level above has room below this one
  pub room-least : 8 * up_to under b ≤ below
  room-least = omega (arith, entries_up, z.second_at_lem)

  pub size_less : up_to under b < under
  size_less = let h = z.stands.step-least in omega (arith, up_to_half under b h)

  module _ (at : ℕ) (e : at ≡ below - 8 * up_to under b) where
    pub at-ends : at + 8 * up_to under b ≡ below
    at-ends = omega (arith, room-least)

    at_is : at ≡ start + 8 * upper_entries b (up_to under b)
    at_is = omega (arith, entries_up, z.second_at_lem)

    at_room : at + 8 * up_to under b ≤ length d
    at_room = omega (arith, at-ends, z.stands.room)

    back : level_in (put d at (bytes_of 4 (flat_spans above))) (up_to under b) at ≡ above
    back =
        level-back (put d at (bytes_of 4 (flat_spans above))) (up_to under b) at above length_up small
        (put_back d at (bytes_of 4 (flat_spans above)) (omega (arith, length-entries above, length_up, at_room)))
      where
        small : Below (256 ^ 4) (flat_spans above)
        small = unfold above in (level-small b (256 ^ 4) (lasts b (level_in d under below)) z.stands.cells z.stands.empty)

    up_sum : pair_sum (lasts b (level_in (put d at (bytes_of 4 (flat_spans above))) (up_to under b) at)) ≡ pair_sum (lasts b (level_in d under below))
    up_sum = ap (λ (ys : List Span). pair_sum (lasts b ys)) back ∙ unfold above in (level-sum b (lasts b (level_in d under below)))

    pub level_up : LevelZero (put d at (bytes_of 4 (flat_spans (level b (lasts b (level_in d under below)))))) start b (up_to under b) at
    unfolding above
    level_up =
        let m = z.stands.most in
        record {
          stands =
              record {
                step-least = z.stands.step-least;
                step-most = z.stands.step-most;
                most = omega (arith, size_less);
                room = rw (length-put d at (bytes_of 4 (flat_spans above))) at_room;
                cells = rw up_sum z.stands.cells;
                empty = rw up_sum z.stands.empty;
              };
          second_at_lem = at_is;
        }

    pub whole_up : with_upper (put d at (bytes_of 4 (flat_spans (level b (lasts b (level_in d under below)))))) start b (up_to under b) at
        ≡ with_upper d start b under below
    unfolding above
    whole_up =
        let n : length (upper_levels b above) ≡ upper_entries b (up_to under b)
        = length-upper_levels b above (omega (arith, z.stands.step-least)) ∙ ap (upper_entries b) length_up in
        let l : b < length (level_in d under below) = rw (length-level_in d under below) more in
        ap (λ (ys : List Span). put (put d at (bytes_of 4 (flat_spans above))) start (bytes_of 4 (flat_spans (upper_levels b ys)))) back
        ∙ put_two d start at (upper_levels b above) above (omega (arith, at_is))
        ∙ ap (λ (ys : List Span). put d start (bytes_of 4 (flat_spans ys))) (sym (one_more_level b (level_in d under below) z.stands.step-least l))
