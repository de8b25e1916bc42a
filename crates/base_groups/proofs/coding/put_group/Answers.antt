use Rattle.std.proofs.Common.{◌≡◌, ℕ, List, [], length, get_or, sym, ap, ◌∙◌, ap₂, arith}
use Rattle.format.specs.Bytes.{bytes, bytes_of}
use Rattle.stores.specs.Put.{put}
use Rattle.stores.proofs.Laws.{put_nil, length-put}
use Rattle.parts.specs.declared.Encoder.{Encoder}
use Rattle.parts.specs.Encoder.{if_zero}
use Rattle.parts.proofs.Taking.{if_zero_lem, if_more}
use Rattle.offsets.specs.Over.{offsets_over}
use Rattle.base_groups.proofs.Grouped.{rising-base, base_group, put_group, room-first, room-second}
use Rattle.base_groups.proofs.coding.put_group.Goals.{After-take_group-at, Joined-e-eq0}
use Rattle.base_groups.proofs.coding.put_group.Goals as goal
use Rattle.base_groups.proofs.coding.put_group.Goals.{else-e-eq0, then-e-eq0}

-- after the base, if there is one
first-put : (c : Joined-e-eq0)
    → let a = c.args in c.if-e-eq0.dst ≡ put a.dst.now a.e.first (if_zero a.e.left (bytes 4 (get_or a.ps.now 0 0)) [])
first-put c =
    let a = c.args in
    let x = bytes 4 (get_or a.ps.now 0 0) in
    elim c.if-e-eq0.branch [ then-e-eq0 w ↦ w.dst-is ∙ w.put_u32.ensures ∙ ap (put a.dst.now a.e.first) (sym (if_zero_lem a.e.left x [] w.if-e-eq0.true)) | else-e-eq0 w ↦ w.dst-is ∙ sym (put_nil a.dst.now a.e.first) ∙ ap (put a.dst.now a.e.first) (sym (if_more a.e.left x [] w.if-e-eq0.false)) ]

-- the base that the offsets are from
base : (c : After-take_group-at) → let a = c.args in c.take_group-at.result.base ≡ if_zero a.e.left (get_or a.ps.now 0 0) a.e.base
base c =
    let a = c.args in
    ap (λ (x : Encoder). x.base) c.take_group-at.ensures ∙ base_group a.step a.e a.ps.now c.requires.0 a.width c.requires.4

pub bounds-ps-0 : goal.bounds-ps-0
bounds-ps-0 c = let s = c.requires.0.some in omega arith

pub put_u32-requires : goal.put_u32-requires
put_u32-requires c =
    let a = c.args in
    room-first a.step a.e a.ps.now c.requires.0 a.width (length a.dst.now) c.requires.1 c.if-e-eq0.true

pub put_offsets-requires : goal.put_offsets-requires
put_offsets-requires c =
    let a = c.args in
    let n = ap length (first-put (goal.at.put_offsets-requires c).Joined-e-eq0) ∙ length-put a.dst.now a.e.first _ in (
      rw (base (goal.at.put_offsets-requires c).After-take_group-at) (rising-base a.step a.e a.ps.now c.requires.0),
      rw n (room-second a.step a.e a.ps.now c.requires.0 a.width (length a.dst.now) c.requires.1),
      c.requires.2,
      c.requires.3,
    )

pub returns : goal.returns
returns c =
    let a = c.args in (
      c.take_group-at.ensures,
      c.put_offsets.ensures
          ∙ ap₂ (λ (x : List ℕ) (b : ℕ). put x a.e.second (bytes_of a.width (offsets_over b a.ps.now))) (first-put (goal.at.returns c).Joined-e-eq0) (base (goal.at.returns c).After-take_group-at)
          ∙ put_group a.step a.e a.ps.now c.requires.0 a.width a.dst.now,
    )
