use Rattle.std.proofs.Common.{◌≡◌, ◌+◌, ◌-◌, ◌*◌, ◌≤◌, length, le_refl, arith}
use Rattle.parts.specs.declared.Encoder.{Encoder}
use Rattle.parts.specs.Encoder.{left_after}
use Rattle.parts.specs.Ready.{Sound}
use Rattle.rises.specs.Copied.{copied}
use Rattle.page_walk.specs.Steps.{next}
use Rattle.page_entries.specs.Coding.{pages_coder}
use Rattle.pages_copy.specs.Page.{cursor_on, encoder_on, Fits, Further}
use Rattle.pages_copy.proofs.Behind.{Behind, behind, entry_there}
use Rattle.pages_copy.proofs.Apart.{Apart, N}
use Rattle.pages_copy.proofs.Page.{none-further, page_apart, sub32, sub32_back, page-further, page-fits}
use Rattle.pages_copy.proofs.put_page.Goals.{After-get_pair-y, Else-left-ranks, Else-m-eq0}
use Rattle.pages_copy.proofs.put_page.Goals as goal

-- m runs are behind the cursor's in its page
runs_here : (c : Else-m-eq0) → let a = c.args in Behind a.file.now a.v a.c c.runs_behind-m.result
runs_here c =
    let a = c.args in
    let m = c.runs_behind-m in
    let h = c.if-m-eq0.false in
    behind a.file.now a.v _ c.requires.1 a.c c.requires.2 m.result (omega arith) (m.ensures.1 (omega arith))

-- the new page takes their entries
room-here : (c : Else-m-eq0) → let a = c.args in c.runs_behind-m.result ≤ left_after a.step a.e.left
room-here c =
    let t = c.left_after-room.ensures in
    let r = c.runs_behind-m.ensures.0 in
    omega arith

-- from the cursor's entry to the last of them
apart-here : (c : After-get_pair-y) (w : Behind c.args.file.now c.args.v c.args.c c.runs_behind-m.result)
    → let a = c.args in
    let x = c.get_pair-x.result in
    let y = c.get_pair-y.result in
    Apart (N a.file.now a.v a.c c.runs_behind-m.result w) x y (y.first - x.first) (y.second - x.second)
    (y.first - x.first - (y.second - x.second))
apart-here c w =
    let a = c.args in
    page_apart a.file.now a.v a.c c.runs_behind-m.result w c.get_pair-x.result c.get_pair-y.result
    c.get_pair-x.ensures.0 c.get_pair-y.ensures.0

-- what the encoder is in its page
sound-here : (e : Encoder) → 1 ≤ e.rank → Sound e → (e.cells ≤ e.last + 1) × (e.empty + e.rank ≤ e.last + 1) × (e.last + 1 ≤ 16777216)
sound-here e o s =
    let p = s.passed-most in
    let q = s.cells-most in
    let r = s.empty-most in
    (omega arith, omega arith, omega arith)

fits-here : (c : Else-left-ranks) (w : Behind c.args.file.now c.args.v c.args.c c.runs_behind-m.result) (r : c.runs_behind-m.result ≤ left_after c.args.step c.args.e.left)
    → let a = c.args in
    let x = c.get_pair-x.result in
    let y = c.get_pair-y.result in
    let m = c.runs_behind-m.result in
    Fits a.c a.e (y.first - x.first) (y.first - x.first - (y.second - x.second)) m × (a.e.second + 8 * m ≤ length a.dst.now)
    × (length (copied a.file.now (a.v.second + 8 * (a.c.next - 1)) (sub32 (c.args.e.last + 1 - c.args.e.cells) x.first) (sub32 (c.args.e.last + 1 - c.args.e.rank - c.args.e.empty) x.second) a.e.second m a.dst.now) ≡ length a.dst.now)
fits-here c w r =
    let a = c.args in
    let x = c.get_pair-x in
    let y = c.get_pair-y in
    let h = c.if-m-eq0.false in
    let s = sound-here c.args.e c.requires.3 c.requires.5.sound in
    page-fits a.file.now a.v a.c _ w x.result y.result x.ensures.0 y.ensures.0 a.step a.e c.requires.3 c.requires.4 r
    (omega arith) a.dst.now a.left c.requires.5 c.requires.6 c.if-left-ranks.false _ _ (sub32_back _ _ (omega (arith, s.2)) x.ensures.1) (omega arith) (sub32_back _ _ (omega (arith, s.2)) x.ensures.2) (omega arith)

further-here : (c : Else-left-ranks) (w : Behind c.args.file.now c.args.v c.args.c c.runs_behind-m.result) (r : c.runs_behind-m.result ≤ left_after c.args.step c.args.e.left)
    → let a = c.args in
    let x = c.get_pair-x.result in
    let y = c.get_pair-y.result in
    let m = c.runs_behind-m.result in
    Further (next a.file.now a.v) (pages_coder a.step) a.c a.e a.left a.dst.now
    (record {
      c = cursor_on a.c (y.first - x.first) (y.first - x.first - (y.second - x.second)) m;
      e = encoder_on a.e (y.first - x.first) (y.first - x.first - (y.second - x.second)) m (left_after a.step a.e.left - (m - 1));
    })
    (copied a.file.now (a.v.second + 8 * (a.c.next - 1)) (sub32 (c.args.e.last + 1 - c.args.e.cells) x.first) (sub32 (c.args.e.last + 1 - c.args.e.rank - c.args.e.empty) x.second) a.e.second m a.dst.now)
further-here c w r =
    let a = c.args in
    let x = c.get_pair-x in
    let y = c.get_pair-y in
    let h = c.if-m-eq0.false in
    let s = sound-here c.args.e c.requires.3 c.requires.5.sound in
    page-further a.file.now a.v a.c _ w x.result y.result x.ensures.0 y.ensures.0 a.step a.e c.requires.3 c.requires.4 r
    (omega arith) a.dst.now a.left c.requires.5 c.requires.6 c.if-left-ranks.false _ _ (sub32_back _ _ (omega (arith, s.2)) x.ensures.1) (omega arith) (sub32_back _ _ (omega (arith, s.2)) x.ensures.2) (omega arith)

pub returns-then-m-eq0 : goal.returns-then-m-eq0
returns-then-m-eq0 c = let a = c.args in none-further _ _ a.c a.e a.left a.dst.now

pub overflow_sub-at : goal.overflow_sub-at
overflow_sub-at c = (runs_here (goal.at.overflow_sub-at c).Else-m-eq0).some

pub get_pair-x-requires : goal.get_pair-x-requires
get_pair-x-requires c = let t = entry_there _ _ _ _ (runs_here (goal.at.get_pair-x-requires c).Else-m-eq0) 0 (omega arith) in omega arith

pub get_pair-y-requires : goal.get_pair-y-requires
get_pair-y-requires c = entry_there _ _ _ _ (runs_here (goal.at.get_pair-y-requires c).Else-m-eq0) _ (le_refl _)

pub overflow_sub-cells : goal.overflow_sub-cells
overflow_sub-cells c = let t = (apart-here (goal.at.overflow_sub-cells c).After-get_pair-y (runs_here (goal.at.overflow_sub-cells c).Else-m-eq0)).first in omega arith

pub overflow_sub-ranks : goal.overflow_sub-ranks
overflow_sub-ranks c = let t = (apart-here (goal.at.overflow_sub-ranks c).After-get_pair-y (runs_here (goal.at.overflow_sub-ranks c).Else-m-eq0)).second in omega arith

pub overflow_sub-ranks-2 : goal.overflow_sub-ranks-2
overflow_sub-ranks-2 c = let t = (apart-here (goal.at.overflow_sub-ranks-2 c).After-get_pair-y (runs_here (goal.at.overflow_sub-ranks-2 c).Else-m-eq0)).stored in omega arith

pub returns-then-left-ranks : goal.returns-then-left-ranks
returns-then-left-ranks c = let a = c.args in none-further _ _ a.c a.e a.left a.dst.now

pub overflow_add-end : goal.overflow_add-end
overflow_add-end c = let s = (sound-here c.args.e c.requires.3 c.requires.5.sound).2 in omega arith

pub overflow_sub-first : goal.overflow_sub-first
overflow_sub-first c = (sound-here c.args.e c.requires.3 c.requires.5.sound).0

pub overflow_sub-second-2 : goal.overflow_sub-second-2
overflow_sub-second-2 c = let s = (sound-here c.args.e c.requires.3 c.requires.5.sound).1 in omega arith

pub overflow_sub-second : goal.overflow_sub-second
overflow_sub-second c = let s = (sound-here c.args.e c.requires.3 c.requires.5.sound).1 in omega arith

pub overflow_cast-m-2 : goal.overflow_cast-m-2
overflow_cast-m-2 c = let r = runs_here (goal.at.overflow_cast-m-2 c).Else-m-eq0 in let u = r.used in let s = r.small in omega arith

pub copy_pairs-requires : goal.copy_pairs-requires
copy_pairs-requires c =
    let t = entry_there _ _ _ _ (runs_here (goal.at.copy_pairs-requires c).Else-m-eq0) _ (le_refl _) in
    (omega arith, (fits-here (goal.at.copy_pairs-requires c).Else-left-ranks (runs_here (goal.at.copy_pairs-requires c).Else-m-eq0) (room-here (goal.at.copy_pairs-requires c).Else-m-eq0)).1)

pub overflow_sub-m : goal.overflow_sub-m
overflow_sub-m c = let h = c.if-m-eq0.false in omega arith

pub overflow_sub-room : goal.overflow_sub-room
overflow_sub-room c = let t = c.runs_behind-m.ensures.0 in omega arith

pub run_on-requires : goal.run_on-requires
run_on-requires c = (fits-here (goal.at.run_on-requires c).Else-left-ranks (runs_here (goal.at.run_on-requires c).Else-m-eq0) (room-here (goal.at.run_on-requires c).Else-m-eq0)).0

pub returns : goal.returns
returns c = rw (c.run_on.ensures, c.left_after-room.ensures, c.copy_pairs.ensures) (further-here (goal.at.returns c).Else-left-ranks (runs_here (goal.at.returns c).Else-m-eq0) (room-here (goal.at.returns c).Else-m-eq0))
