-- The loop that puts the pointers behind the differences, each from the one before. Assumes nothing.
use Prim.Native.Nat.{ℕ, suc, ◌+◌, ◌-◌, ◌*◌, ◌≤◌, ◌<◌}
use mathlib.Core.Path.{◌≡◌, refl, sym, ap, ap₂, ◌∙◌}
use mathlib.Core.List.{List}
use native.Mathlib.Omega.{arith}
use lib.ListN.{length, get_or, drop}
use Rattle.format.specs.Bytes.{bytes, bytes_of, numbers_of}
use Rattle.format.specs.PointedJumps.{pointers}
use Rattle.stores.specs.Put.{put}
use Rattle.stores.proofs.Laws.{length-put, put-numbers-drop, put-numbers-end}
use Rattle.differences.specs.Walk.{Room, JumpAfter}
use Rattle.pointed_jumps.proofs.Stands.{numbers-put, Stands, stands-put, pointer_first, pointer_below, pointer_next, last-there}

-- before the turn of index k: r is the pointer before, and what is left of the m pointers gives the whole
pub record Pointing (w n second at last m : ℕ) (d₀ d : List ℕ) (r k : ℕ) : Type 0 where
  pub ds : List ℕ
  pub here : numbers_of w (suc last) (drop second d₀) ≡ ds
  pub stands : Stands w n second ds d
  pub size : length ds ≡ suc last
  pub place : at ≡ second + w * suc last
  pub count : m ≡ length (pointers n ds)
  pub some : 1 ≤ k
  pub most : k ≤ m
  pub rank : r ≡ get_or (pointers n ds) (k - 1) 0
  pub same : length d ≡ length d₀
  pub written : put d (at + 4 * k) (bytes_of 4 (drop k (pointers n ds))) ≡ put d₀ (at + 4) (bytes_of 4 (drop 1 (pointers n ds)))

module _ (w n second at last m : ℕ) (d₀ : List ℕ) where
  -- after the first pointer
  pub pointing_begin : (ds d : List ℕ) → numbers_of w (suc last) (drop second d) ≡ ds → Stands w n second ds d → length ds ≡ suc last → at ≡ second + w * suc last
      → m ≡ length (pointers n ds) → 1 ≤ m → d₀ ≡ put d at (bytes 4 0) → Pointing w n second at last m d₀ d₀ 0 1
  pointing_begin ds d e s l a c h o =
      let l' : w * length ds ≡ w * suc last = ap (λ (x : ℕ). w * x) l in
      record {
        ds = ds;
        here = rw o (numbers-put w (suc last) second d at (bytes 4 0) (omega arith)) ∙ e;
        stands = rw o (stands-put w n second ds d at (bytes 4 0) (omega arith) s);
        size = l;
        place = a;
        count = c;
        some = omega arith;
        most = h;
        rank = sym (pointer_first w n second ds d s (omega arith));
        same = refl;
        written = refl;
      }

  module _ (d : List ℕ) (r k : ℕ) (p : Pointing w n second at last m d₀ d r k) where
    abbrev ps : List ℕ
    ps = pointers n p.ds

    -- the pointers have room
    pub pointing_room : at + 4 * m ≤ length d
    pointing_room =
        let l : w * length p.ds ≡ w * suc last = ap (λ (x : ℕ). w * x) p.size in
        let r = p.stands.room in
        let a = p.place in
        let c = p.count in
        omega arith

    -- what the search for the next asks
    pub pointing_asks : Room w second d last × (r ≤ last)
    pointing_asks =
        let b = pointer_below w n second p.ds d p.stands (k - 1) (let l = p.size in omega arith) in
        let l = p.size in
        let q = p.rank in
        (last-there w n second p.ds d p.stands last p.size, omega arith)

    -- one more
    pub pointing_turn : k < m → (t : ℕ) → JumpAfter w second d r n last t → (d' : List ℕ) → d' ≡ put d (at + 4 * k) (bytes 4 t)
        → Pointing w n second at last m d₀ d' t (k + 1)
    pointing_turn h t f d' o =
        let c = p.count in
        let a = p.place in
        let i = p.some in
        let l : w * length p.ds ≡ w * suc last = ap (λ (x : ℕ). w * x) p.size in
        let x : suc (k - 1) ≡ k = omega arith in
        let y : k + 1 - 1 ≡ k = omega arith in
        let u : t ≡ get_or ps k 0 = rw x at (pointer_next w n second p.ds d p.stands (k - 1) last t (omega arith) p.size (rw p.rank at f)) in
        let v : at + 4 * (k + 1) ≡ at + 4 * k + 4 = omega arith in
        let e : d' ≡ put d (at + 4 * k) (bytes 4 (get_or ps k 0)) = o ∙ ap (λ (q : ℕ). put d (at + 4 * k) (bytes 4 q)) u in
        record {
          ds = p.ds;
          here = p.here;
          stands = rw o (stands-put w n second p.ds d (at + 4 * k) (bytes 4 t) (omega arith) p.stands);
          size = p.size;
          place = p.place;
          count = p.count;
          some = omega arith;
          most = omega arith;
          rank = rw y u;
          same = ap length o ∙ length-put d (at + 4 * k) (bytes 4 t) ∙ p.same;
          written = rw (v, e) (sym (put-numbers-drop 4 d (at + 4 * k) ps k (omega arith))) ∙ p.written;
        }

    -- all: with the first they are the pointers of the differences that stood before
    pub pointing_end : m ≤ k → (b : List ℕ) → d₀ ≡ put b at (bytes 4 0)
        → d ≡ put b (second + w * suc last) (bytes_of 4 (pointers n (numbers_of w (suc last) (drop second b))))
    pointing_end h b o =
        let c = p.count in
        let i = p.some in
        let j = p.most in
        let f = pointer_first w n second p.ds d p.stands (omega arith) in
        let s : numbers_of w (suc last) (drop second b) ≡ p.ds
        = sym (numbers-put w (suc last) second b at (bytes 4 0) (let a = p.place in omega arith)) ∙ rw o at p.here in
        let all : put b at (bytes_of 4 ps) ≡ put d₀ (at + 4) (bytes_of 4 (drop 1 ps)) = put-numbers-drop 4 b at ps 0 (omega arith) ∙ rw (f, o) in
        sym (put-numbers-end 4 d (at + 4 * k) ps k (omega arith)) ∙ p.written ∙ sym all
        ∙ ap₂ (λ (x : ℕ) (l : List ℕ). put b x (bytes_of 4 (pointers n l))) p.place (sym s)
