use Rattle.std.proofs.Common.{ℕ, List, get_or, Fits, w8, sym, ◌∙◌, arith}
use Rattle.format.specs.Tools.{Below}
use Rattle.base_groups.proofs.Known.{known}
use Rattle.laws.proofs.Bounds.{below_elements}
use Rattle.base_groups.proofs.Turn.{no_ranks, firsts-some, falls_other, falls-same}
use Rattle.base_offset.proofs.check.parts_right.Goals as goal

bytes_below : (b : List ℕ) → ((i : ℕ) → Fits w8 (get_or b i 0)) → Below 256 b
bytes_below b f = below_elements 256 b (λ i. (f i).fits)

pub returns-then-v-eq0 : goal.returns-then-v-eq0
returns-then-v-eq0 c = no_ranks c.requires (bytes_below _ c.type_inv.file) c.if-v-eq0.true

pub count_falls-requires : goal.count_falls-requires
count_falls-requires c = let n = c.if-v-eq0.false in (omega arith, (known _ _ c.requires).there)

pub overflow_sub-v : goal.overflow_sub-v
overflow_sub-v c = let n = c.if-v-eq0.false in firsts-some c.requires (omega arith)

pub returns-then-count_falls-v : goal.returns-then-count_falls-v
returns-then-count_falls-v c =
    let n = c.if-v-eq0.false in
    falls_other c.requires (bytes_below _ c.type_inv.file) (omega arith) (λ q. c.if-count_falls-v.true (c.count_falls.ensures ∙ q))

pub groups_right-requires : goal.groups_right-requires
groups_right-requires c = let n = c.if-v-eq0.false in (c.requires, omega arith)

pub returns : goal.returns
returns c =
    let n = c.if-v-eq0.false in
    c.groups_right.ensures
    ∙ falls-same c.requires (bytes_below _ c.type_inv.file) (omega arith) (sym c.count_falls.ensures ∙ c.if-count_falls-v.false)
