-- Each contract of the kind with the number k is that of a view or a setting whose kind is k; what a call asks, the other way round. Assumes nothing.
use Prim.Native.Nat.{ℕ, ◌+◌, ◌≤◌}
use mathlib.Core.Path.{◌≡◌, sym, subst}
use mathlib.Core.Bool.{Bool, true}
use mathlib.Core.List.{List}
use lib.ListN.{length}
use Rattle.std.specs.Prelude.{Option}
use Rattle.format.specs.declared.Setting.{Setting}
use Rattle.format.specs.declared.View.{View}
use Rattle.format.specs.Kinds.{codec, codec_of, setting_allowed}
use Rattle.stores.specs.Put.{put}
use Rattle.parts.specs.declared.Cursor.{Cursor}
use Rattle.parts.specs.declared.Encoder.{Encoder}
use Rattle.parts.specs.declared.Found.{Found}
use Rattle.parts.specs.declared.PartBytes.{PartBytes}
use Rattle.parts.specs.declared.RunPart.{RunPart}
use Rattle.parts.specs.declared.Sizes.{Sizes}
use Rattle.parts.specs.declared.walk.Walk.{Walk}
use Rattle.parts.specs.Holds.{kind_of, Counted, Sized, said, parts_right, Holds}
use Rattle.parts.specs.Found.{FoundIn, PositionIn, RunIn}
use Rattle.parts.specs.Cursor.{Batch}
use Rattle.parts.specs.Walks.{sought, Climbs}
use Rattle.parts.specs.Encoder.{Coder, ended_by, taken_all_by}
use Rattle.parts.specs.Batch.{RoomAll, put_all_by}
use Rattle.parts.specs.Codes.{Standing}
use Rattle.parts.specs.Carried.{PutAs}
use Rattle.kinds.specs.Steps.{next_by, next_of, walked, stepped_by, sought_by}
use Rattle.kinds.specs.Coding.{coder_of, coder, taken_all, derived}

-- ---- of a view

module _ (v : View) (k : ℕ) (e : v.kind ≡ k) where
  pub view-allowed : (kind_of v).allowed ≡ true → (codec_of k v.width v.step).allowed ≡ true
  view-allowed h = subst (λ (n : ℕ). (codec_of n v.width v.step).allowed ≡ true) e h

  pub view_sized : (r : Option PartBytes) → Sized (codec_of k v.width v.step) v r → Sized (kind_of v) v r
  view_sized r h = subst (λ (n : ℕ). Sized (codec_of n v.width v.step) v r) (sym e) h

  module _ (b : List ℕ) where
    pub view-counted : Counted (kind_of v) b v → Counted (codec_of k v.width v.step) b v
    view-counted h = subst (λ (n : ℕ). Counted (codec_of n v.width v.step) b v) e h

    pub view-right : (r : Bool) → r ≡ parts_right (codec_of k v.width v.step) b v → r ≡ parts_right (kind_of v) b v
    view-right r h = subst (λ (n : ℕ). r ≡ parts_right (codec_of n v.width v.step) b v) (sym e) h

    pub view-found : (p : ℕ) (r : Found) → FoundIn (codec_of k v.width v.step) b v p r → FoundIn (kind_of v) b v p r
    view-found p r h = subst (λ (n : ℕ). FoundIn (codec_of n v.width v.step) b v p r) (sym e) h

    pub view-placed : (r q : ℕ) → PositionIn (codec_of k v.width v.step) b v r q → PositionIn (kind_of v) b v r q
    view-placed r q h = subst (λ (n : ℕ). PositionIn (codec_of n v.width v.step) b v r q) (sym e) h

    pub view-run : (r : ℕ) (f : RunPart) → RunIn (codec_of k v.width v.step) b v r f → RunIn (kind_of v) b v r f
    view-run r f h = subst (λ (n : ℕ). RunIn (codec_of n v.width v.step) b v r f) (sym e) h

    pub view-next : (c r : Cursor) → r ≡ next_by k b v c → r ≡ next_of b v c
    unfolding next_of
    view-next c r h = subst (λ (n : ℕ). r ≡ next_by n b v c) (sym e) h

    pub view_batch : (c : Cursor) (m : ℕ) (r : Cursor) (out : List ℕ) → Batch (next_by k b v) c m r out → (r ≡ stepped_by b v c m) × (out ≡ walked b v c m)
    unfolding next_of walked stepped_by
    view_batch c m r out h = let t = subst (λ (n : ℕ). Batch (next_by n b v) c m r out) (sym e) h in (t.cursor, t.positions)

    pub view-climbs : (n : ℕ) (c : Cursor) → Climbs (next_of b v) n c → Climbs (next_by k b v) n c
    unfolding next_of
    view-climbs n c h = subst (λ (j : ℕ). Climbs (next_by j b v) n c) e h

    pub view-sought : (p m : ℕ) (c r : Cursor) → r ≡ sought (next_by k b v) v.words p m c → r ≡ sought_by b v p m c
    unfolding sought_by next_of
    view-sought p m c r h = subst (λ (n : ℕ). r ≡ sought (next_by n b v) v.words p m c) (sym e) h

-- ---- of a setting

module _ (s : Setting) (k : ℕ) (e : s.kind ≡ k) where
  pub setting-allowed : setting_allowed s ≡ true → (codec_of k s.width s.step).allowed ≡ true
  unfolding setting_allowed codec
  setting-allowed h = subst (λ (n : ℕ). (codec_of n s.width s.step).allowed ≡ true) e h

  abbrev its : Coder
  its = coder_of k s.width s.step

  from : (P : Coder → Type 0) → P its → P (coder s)
  unfolding coder
  from P h = subst (λ (n : ℕ). P (coder_of n s.width s.step)) (sym e) h

  to : (P : Coder → Type 0) → P (coder s) → P its
  unfolding coder
  to P h = subst (λ (n : ℕ). P (coder_of n s.width s.step)) e h

  pub setting-room : (x : Encoder) (ls : List ℕ) (m : ℕ) → RoomAll (coder s) x ls m → RoomAll its x ls m
  setting-room x ls m h = to (λ (c : Coder). RoomAll c x ls m) h

  pub setting-ends-first : (x : Encoder) (m : ℕ) → x.first + length ((coder s).end_first x) ≤ m → x.first + length (its.end_first x) ≤ m
  setting-ends-first x m h = to (λ (c : Coder). x.first + length (c.end_first x) ≤ m) h

  pub setting-ends-second : (x : Encoder) (m : ℕ) → x.second + length ((coder s).end_second x) ≤ m → x.second + length (its.end_second x) ≤ m
  setting-ends-second x m h = to (λ (c : Coder). x.second + length (c.end_second x) ≤ m) h

  pub setting-taken : (x : Encoder) (ls : List ℕ) (r : Encoder) → r ≡ taken_all_by its x ls → r ≡ taken_all s x ls
  unfolding taken_all
  setting-taken x ls r h = from (λ (c : Coder). r ≡ taken_all_by c x ls) h

  pub setting-put : (x : Encoder) (ls : List ℕ) (r : Encoder) (d after : List ℕ) → (r ≡ taken_all_by its x ls) × (after ≡ put_all_by its d x ls)
      → (r ≡ taken_all s x ls) × (after ≡ put_all_by (coder s) d x ls)
  setting-put x ls r d after h = (setting-taken x ls r h.0, from (λ (c : Coder). after ≡ put_all_by c d x ls) h.1)

  pub setting_ended : (x r : Encoder) → r ≡ ended_by its x → r ≡ ended_by (coder s) x
  setting_ended x r h = from (λ (c : Coder). r ≡ ended_by c x) h

  pub setting_finished : (x : Encoder) (d after : List ℕ) → after ≡ put (put d x.first (its.end_first x)) x.second (its.end_second x)
      → after ≡ put (put d x.first ((coder s).end_first x)) x.second ((coder s).end_second x)
  setting_finished x d after h = from (λ (c : Coder). after ≡ put (put d x.first (c.end_first x)) x.second (c.end_second x)) h

  pub setting-sizes : (x : Encoder) (r : Sizes) → r ≡ its.sizes x → r ≡ (coder s).sizes x
  setting-sizes x r h = from (λ (c : Coder). r ≡ c.sizes x) h

  pub setting_standing : (z : Sizes) (start : ℕ) (d : List ℕ) → Standing (coder s) (codec s) z start d
      → Standing its (codec_of k s.width s.step) z start d
  unfolding codec coder
  setting_standing z start d h = subst (λ (n : ℕ). Standing (coder_of n s.width s.step) (codec_of n s.width s.step) z start d) e h

  pub setting-derived : (z : Sizes) (start : ℕ) (d after : List ℕ) → after ≡ its.derived z start d → after ≡ derived s z start d
  unfolding derived
  setting-derived z start d after h = from (λ (c : Coder). after ≡ c.derived z start d) h

-- ---- of a view and a setting of one kind

module _ (v : View) (s : Setting) (k : ℕ) (e : v.kind ≡ k) (g : s.kind ≡ k) (b : List ℕ) where
  pub view_holds : (ls : List ℕ) → Holds (kind_of v) b v ls → Holds (codec_of k v.width v.step) b v (said (codec_of k v.width v.step) b v)
  view_holds ls h =
      let t = subst (λ (n : ℕ). Holds (codec_of n v.width v.step) b v ls) e h in
      subst (λ (l : List ℕ). Holds (codec_of k v.width v.step) b v l) (sym t.back) t

  pub view-step : (P : (Cursor → Cursor) → Type 0) → P (next_of b v) → P (next_by k b v)
  unfolding next_of
  view-step P h = subst (λ (n : ℕ). P (next_by n b v)) e h

  pub put-both_kinds : (c : Cursor) (x : Encoder) (n : ℕ) (d : List ℕ) (w : Walk) (out : List ℕ)
      → PutAs (next_by k b v) (coder_of k s.width s.step) c x n d w out → PutAs (next_of b v) (coder s) c x n d w out
  unfolding next_of coder
  put-both_kinds c x n d w out h =
      subst (λ (m : ℕ). PutAs (next_by v.kind b v) (coder_of m s.width s.step) c x n d w out) (sym g)
      (subst (λ (m : ℕ). PutAs (next_by m b v) (coder_of k s.width s.step) c x n d w out) (sym e) h)
