use Rattle.std.proofs.Common.{◌-◌, length, sym, ◌∙◌, arith}
use Rattle.wire.specs.Wire.{entry_size}
use Rattle.offsets.proofs.Widths.{entries_fit}
use Rattle.offsets.proofs.OneGroup.{room, ends-past, ends-first, ends_last}
use Rattle.offsets.proofs.ends.ends_right.Goals as goal

pub returns-then-next-base : goal.returns-then-next-base
returns-then-next-base c =
    let a = c.args in
    ends-past (entry_size a.width) a.n a.at a.base a.next a.file.now c.requires.0 c.if-next-base.true

pub get_entry-requires : goal.get_entry-requires
get_entry-requires c =
    let a = c.args in
    (room (entry_size a.width) a.n a.at (length a.file.now) c.requires.0 c.requires.1).0

pub returns-then-get_entry-ne0 : goal.returns-then-get_entry-ne0
returns-then-get_entry-ne0 c =
    let a = c.args in
    ends-first (entry_size a.width) a.n a.at a.base a.next a.file.now c.requires.0
    (λ q. c.if-get_entry-ne0.true (c.get_entry.ensures.0 ∙ q))

pub overflow_mul-last : goal.overflow_mul-last
overflow_mul-last c =
    let e = c.entry_size.ensures.1 in
    let m = entries_fit c.entry_size.result (c.args.n - 1) e (omega arith) in
    record { fits = omega arith }

pub overflow_add-last : goal.overflow_add-last
overflow_add-last c =
    let a = c.args in
    let p = c.requires in
    let r = (room (entry_size a.width) a.n a.at (length a.file.now) p.0 p.1).1 in
    let g = c.well_formed in
    rw c.entry_size.ensures.0 (omega arith)

pub get_entry-requires-2 : goal.get_entry-requires-2
get_entry-requires-2 c =
    let a = c.args in
    let p = c.requires in
    let r = (room (entry_size a.width) a.n a.at (length a.file.now) p.0 p.1).1 in
    rw c.entry_size.ensures.0 (omega arith)

pub returns : goal.returns
returns c =
    let a = c.args in
    rw (c.get_entry-2.ensures.0, c.entry_size.ensures.0)
    (ends_last (entry_size a.width) a.n a.at a.base a.next a.file.now c.requires.0
    (sym c.get_entry.ensures.0 ∙ c.if-get_entry-ne0.false))
