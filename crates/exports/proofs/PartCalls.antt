-- The codes of the calls that hand back a part of the caller's bytes. Assumes nothing.
use Prim.Native.Nat.{ℕ, ◌+◌, ◌*◌, ◌^◌, ◌≤◌, ◌<◌}
use mathlib.Core.Path.{◌≡◌, sym, ap, ◌∙◌}
use mathlib.Core.List.{List}
use native.Mathlib.Omega.{arith}
use lib.ListN.{length, drop}
use borrow.Author.Tests.{lt-ltb, le-ltb}
use Rattle.format.specs.declared.View.{View}
use Rattle.format.specs.Tools.{Below}
use Rattle.format.specs.Bytes.{field}
use Rattle.format.specs.Answers.{refused, given}
use Rattle.format.specs.Accepted.{length_field, check_number}
use Rattle.format.specs.RankRange.{ranks_number, ranks_from}
use Rattle.format.specs.Shorter.{shorter_number}
use Rattle.laws.proofs.Bytes.{below-drop, number_small}
use Rattle.laws.proofs.Check.{counts_by}
use Rattle.laws.proofs.Acceptance.{accepted, header-right}
use Rattle.parts.specs.Holds.{ViewOf}
use Rattle.parts.proofs.Seen.{seen}
use Rattle.lent_parts.proofs.Range.{ranged}
use Rattle.reading.proofs.Answers.{refuses}
use Rattle.exports.specs.Handed.{ranks_answer, shorter_answer}

-- ---- a range of ranks

-- the length of an accepted file is a field of four bytes
file-small : (b : List ℕ) → Below 256 b → check_number b ≡ 0 → length b < 2 ^ 32
unfolding field length_field
file-small b small h =
    let r = counts_by b (header-right b (accepted b h).header).counts in
    let s : field 4 48 b < 2 ^ 32 = number_small 4 (drop 48 b) (below-drop 256 48 b small) in
    let e : length b ≡ field 4 48 b = r.size ∙ sym r.fields.end in
    rw e s

module _ (b : List ℕ) (a c : ℕ) where
  pub ranks-refused : (n : ℕ) → n ≡ ranks_number b a c → (ranks_number b a c ≡ 0 → ⊥) → refused n ≡ ranks_answer b a c
  unfolding ranks_answer
  ranks-refused n e h = refuses (ranks_number b a c) n _ e h

  module _ (v : View) (o : ViewOf b v) (z : ranks_number b a c ≡ 0) where
    pub ranks-small : Below 256 b → v.place + 4 * a < 2 ^ 32
    ranks-small small =
        let s = file-small b small o.accepted in
        let r = ranged b v o a c z in
        let h = r.order in
        let i = r.inside in
        omega arith

    pub ranks-given : (at : ℕ) → at ≡ v.place + 4 * a → given at ≡ ranks_answer b a c
    unfolding ranks_answer ranks_from
    ranks-given at e = rw z (ap given (e ∙ ap (λ (x : ℕ). x + 4 * a) (seen b v o).header.place))

-- ---- the shorter of two files

module _ (b₁ b₂ : List ℕ) where
  pub shorter_refused : (n : ℕ) → n ≡ shorter_number b₁ b₂ → (shorter_number b₁ b₂ ≡ 0 → ⊥) → refused n ≡ shorter_answer b₁ b₂
  unfolding shorter_answer
  shorter_refused n e h = refuses (shorter_number b₁ b₂) n _ e h

  module _ (z : shorter_number b₁ b₂ ≡ 0) where
    pub second_shorter : length b₂ < length b₁ → given 1 ≡ shorter_answer b₁ b₂
    unfolding shorter_answer
    second_shorter h = rw (z, lt-ltb (length b₂) (length b₁) h)

    pub first_shorter : length b₁ ≤ length b₂ → given 0 ≡ shorter_answer b₁ b₂
    unfolding shorter_answer
    first_shorter h = rw (z, le-ltb (length b₂) (length b₁) h)
