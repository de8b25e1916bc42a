-- What every kind's step and coder are: the law of each kind by its number. Assumes nothing.
use Prim.Native.Nat.{ℕ, zero, suc}
use mathlib.Core.Path.{◌≡◌, refl, sym}
use mathlib.Core.Bool.{true}
use mathlib.Core.List.{List, []}
use native.Mathlib.Nat.{add-zero}
use lib.ListN.{length}
use Rattle.format.specs.declared.View.{View}
use Rattle.format.specs.declared.Setting.{Setting}
use Rattle.format.specs.Kinds.{codec, codec_of, setting_allowed}
use Rattle.parts.specs.declared.Cursor.{Cursor}
use Rattle.stores.specs.Put.{put}
use Rattle.stores.proofs.Laws.{put_nil}
use Rattle.parts.specs.declared.Encoder.{Encoder}
use Rattle.parts.specs.declared.Sizes.{Sizes}
use Rattle.parts.specs.Encoder.{ended_by}
use Rattle.parts.specs.Holds.{Holds, kind_of}
use Rattle.wire.specs.Wire.{add32}
use Rattle.parts.specs.Walks.{Walks}
use Rattle.parts.specs.Codes.{Codes}
use Rattle.run_walk.proofs.Walk as runs
use Rattle.runs.proofs.Laws as runs-coder
use Rattle.positions.proofs.Laws as positions
use Rattle.base_offset.proofs.Laws as based
use Rattle.jumps.proofs.Laws as jumps
use Rattle.pointed_jumps.proofs.Laws as pointed
use Rattle.page_walk.proofs.Walk as paged
use Rattle.paged_runs.proofs.Codes as paged-coder
use Rattle.kinds.specs.Steps.{next_by, next_of, start_of, walked}
use Rattle.run_pairs.specs.Coding.{runs_coder}
use Rattle.positions.specs.Coding as positions-spec
use Rattle.base_groups.specs.Coding as based-spec
use Rattle.jumps.specs.Coding as jumps-spec
use Rattle.jump_entries.specs.Coding.{jumps_coder}
use Rattle.pointed_jumps.specs.Coding as pointed-spec
use Rattle.kinds.specs.Coding.{no_coder, coder_of, coder, derived}
use Rattle.kinds.proofs.None.{never}

walks_by : (k w l : ℕ) → (codec_of k w l).allowed ≡ true → Walks (codec_of k) (next_by k)
walks_by zero w l a = absurd (never a)
walks_by (suc zero) w l a = runs.walks
walks_by (suc (suc zero)) w l a = positions.walks
walks_by (suc (suc (suc zero))) w l a = based.walks
walks_by (suc (suc (suc (suc zero)))) w l a = jumps.walks
walks_by (suc (suc (suc (suc (suc zero))))) w l a = paged.walks
walks_by (suc (suc (suc (suc (suc (suc zero)))))) w l a = pointed.walks
walks_by (suc (suc (suc (suc (suc (suc (suc k))))))) w l a = absurd (never a)

-- the cursor walks the stored positions that the parts hold
pub walks : (b : List ℕ) (v : View) (ls : List ℕ) → Holds (kind_of v) b v ls → walked b v (start_of b v) (length ls) ≡ ls
unfolding walked start_of next_of
walks b v ls h = (walks_by v.kind v.width v.step h.counted.allowed).walk b v ls h

pub rank-next : (b : List ℕ) (v : View) (c : Cursor) → (kind_of v).allowed ≡ true → (next_of b v c).rank ≡ add32 c.rank 1
unfolding next_of
rank-next b v c a = (walks_by v.kind v.width v.step a).rank b v c

codes_by : (k w l : ℕ) → (codec_of k w l).allowed ≡ true → Codes (coder_of k w l) (codec_of k w l)
codes_by zero w l a = absurd (never a)
codes_by (suc zero) w l a = runs-coder.codes w l a
codes_by (suc (suc zero)) w l a = positions.codes w l a
codes_by (suc (suc (suc zero))) w l a = based.codes w l a
codes_by (suc (suc (suc (suc zero)))) w l a = jumps.codes w l a
codes_by (suc (suc (suc (suc (suc zero))))) w l a = paged-coder.codes w l a
codes_by (suc (suc (suc (suc (suc (suc zero)))))) w l a = pointed.codes w l a
codes_by (suc (suc (suc (suc (suc (suc (suc k))))))) w l a = absurd (never a)

-- the coder of an allowed setting puts out the parts
pub codes : (s : Setting) → setting_allowed s ≡ true → Codes (coder s) (codec s)
unfolding setting_allowed codec coder
codes s a = codes_by s.kind s.width s.step a

derived_by : (k w l : ℕ) → (k ≡ 5 → ⊥) → (k ≡ 6 → ⊥) → (z : Sizes) (start : ℕ) (d : List ℕ) → (coder_of k w l).derived z start d ≡ d
unfolding runs_coder positions-spec.coder based-spec.coder jumps-spec.coder jumps_coder no_coder
derived_by zero w l f g z start d = refl
derived_by (suc zero) w l f g z start d = refl
derived_by (suc (suc zero)) w l f g z start d = refl
derived_by (suc (suc (suc zero))) w l f g z start d = refl
derived_by (suc (suc (suc (suc zero)))) w l f g z start d = refl
derived_by (suc (suc (suc (suc (suc zero))))) w l f g z start d = absurd (f refl)
derived_by (suc (suc (suc (suc (suc (suc zero)))))) w l f g z start d = absurd (g refl)
derived_by (suc (suc (suc (suc (suc (suc (suc k))))))) w l f g z start d = refl

-- only kinds 5 and 6 make something of the parts that were put out
pub derived-none : (s : Setting) → (s.kind ≡ 5 → ⊥) → (s.kind ≡ 6 → ⊥) → (z : Sizes) (start : ℕ) (d : List ℕ) → d ≡ derived s z start d
unfolding derived coder
derived-none s f g z start d = sym (derived_by s.kind s.width s.step f g z start d)

pub ruleset no_more = derived-none

-- of the kinds that store no runs
ends_by_lem : (k w l : ℕ) → (k ≡ 1 → ⊥) → (k ≡ 5 → ⊥) → (e : Encoder) → ((coder_of k w l).end_first e ≡ []) × ((coder_of k w l).end_second e ≡ [])
unfolding positions-spec.coder based-spec.coder jumps-spec.coder jumps_coder pointed-spec.coder no_coder
ends_by_lem zero w l f g e = (refl, refl)
ends_by_lem (suc zero) w l f g e = absurd (f refl)
ends_by_lem (suc (suc zero)) w l f g e = (refl, refl)
ends_by_lem (suc (suc (suc zero))) w l f g e = (refl, refl)
ends_by_lem (suc (suc (suc (suc zero)))) w l f g e = (refl, refl)
ends_by_lem (suc (suc (suc (suc (suc zero))))) w l f g e = absurd (g refl)
ends_by_lem (suc (suc (suc (suc (suc (suc zero)))))) w l f g e = (refl, refl)
ends_by_lem (suc (suc (suc (suc (suc (suc (suc k))))))) w l f g e = (refl, refl)

-- their end adds nothing
module _ (s : Setting) (f : s.kind ≡ 1 → ⊥) (g : s.kind ≡ 5 → ⊥) (e : Encoder) where
  pub ended_none : e ≡ ended_by (coder s) e
  unfolding ended_by coder
  ended_none = let t = ends_by_lem s.kind s.width s.step f g e in rw (t.0, t.1, add-zero e.first, add-zero e.second)

  pub finish_none : (d : List ℕ) → d ≡ put (put d e.first ((coder s).end_first e)) e.second ((coder s).end_second e)
  unfolding coder
  finish_none d = let t = ends_by_lem s.kind s.width s.step f g e in rw (t.0, t.1, put_nil d e.first, put_nil d e.second)
