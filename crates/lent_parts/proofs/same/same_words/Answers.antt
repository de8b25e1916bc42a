use Rattle.lent_parts.proofs.Seen.{first-inside, second-inside, words_compared}
use Rattle.lent_parts.proofs.same.same_words.Goals as goal

pub same_numbers-requires : goal.same_numbers-requires
same_numbers-requires c =
    let a = c.args in (
      first-inside a.first.now a.v a.second.now a.w c.requires,
      second-inside a.first.now a.v a.second.now a.w c.requires,
    )

pub returns : goal.returns
returns c =
    let a = c.args in
    words_compared a.first.now a.v a.second.now a.w c.requires c.same_numbers.result c.same_numbers.ensures
