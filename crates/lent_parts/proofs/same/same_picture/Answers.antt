use mathlib.Core.Path.{◌≡◌, sym, ◌∙◌}
use mathlib.Core.Bool.{true}
use Rattle.parts.proofs.Seen.{seen}
use Rattle.lent_parts.specs.Pair.{same_header, Views}
use Rattle.lent_parts.proofs.Common.{other_header, other_words, by_positions}
use Rattle.lent_parts.proofs.Seen.{both_seen}
use Rattle.lent_parts.proofs.same.same_picture.Goals.{Else-not-same_header}
use Rattle.lent_parts.proofs.same.same_picture.Goals as goal

pub same_header-requires : goal.same_header-requires
same_header-requires c = ((seen c.args.first.now c.args.v c.requires.0).header.right.long, (seen c.args.second.now c.args.w c.requires.1).header.right.long)

pub returns-then-not-same_header : goal.returns-then-not-same_header
returns-then-not-same_header c =
    other_header c.args.first.now c.args.second.now c.args.v c.args.w c.requires.0 c.requires.1 (sym c.same_header.ensures ∙ c.if-not-same_header.true)

-- the headers are the same
headers : (c : Else-not-same_header) → same_header c.args.first.now c.args.second.now ≡ true
headers c = sym c.same_header.ensures ∙ c.if-not-same_header.false

views : (c : Else-not-same_header) → Views c.args.first.now c.args.v c.args.second.now c.args.w
views c = both_seen c.args.first.now c.args.v c.args.second.now c.args.w c.requires.0 c.requires.1 (headers c)

pub same_words-requires : goal.same_words-requires
same_words-requires c = views c

pub returns-then-not-same_words : goal.returns-then-not-same_words
returns-then-not-same_words c =
    other_words c.args.first.now c.args.second.now c.args.v c.args.w c.requires.0 c.requires.1 (headers (goal.at.returns-then-not-same_words c).Else-not-same_header) (sym c.same_words.ensures ∙ c.if-not-same_words.true)

pub same_positions-requires : goal.same_positions-requires
same_positions-requires c = views (goal.at.same_positions-requires c).Else-not-same_header

pub returns : goal.returns
returns c =
    c.same_positions.ensures
    ∙ by_positions c.args.first.now c.args.second.now c.args.v c.args.w c.requires.0 c.requires.1 (headers (goal.at.returns c).Else-not-same_header) (sym c.same_words.ensures ∙ c.if-not-same_words.false)
