-- A coder that puts the parts out outright, with nothing to be made of them afterwards; and what the sizes of parts say. Assumes nothing.
use Rattle.std.proofs.Common.{◌≡◌, ℕ, ◌+◌, false, List, length, ap, ◌∙◌, ap₂, arith}
use Rattle.format.specs.Codec.{Codec, Parts}
use Rattle.stores.specs.Put.{put}
use Rattle.parts.specs.declared.Sizes.{Sizes}
use Rattle.parts.specs.Encoder.{Coder, begun, ended_by, taken_all_by, firsts_by, seconds_by}
use Rattle.parts.specs.Codes.{PutOut, sizes_in, out_in}

pub outright : (k : Coder) (c : Codec) (B : ℕ) (ls : List ℕ) → ((z : Sizes) (start : ℕ) (d : List ℕ) → k.derived z start d ≡ d)
    → ((f g : ℕ) → firsts_by k (begun f g) ls ≡ (c.parts B ls).first)
    → ((f g : ℕ) → seconds_by k (begun f g) ls ≡ (c.parts B ls).second)
    → (c.unfit ls ≡ false → k.sizes (ended_by k (taken_all_by k (begun 0 0) ls)) ≡ sizes_in (length ls) (c.parts B ls))
    → PutOut k c B ls
unfolding out_in
outright k c B ls nothing first second sizes =
    record {
      first-most = λ f g. let e = first f g in rw e (omega arith);
      second-most = λ f g. let e = second f g in rw e (omega arith);
      sizes = sizes;
      made = λ z q d start room.
          nothing z start _
          ∙ ap₂ (λ (x y : List ℕ). put (put d start x) (start + z.first) y) (first start (start + z.first)) (second start (start + z.first));
    }

-- what equal sizes say, one by one
module _ (z : Sizes) (n : ℕ) (p : Parts) (q : z ≡ sizes_in n p) where
  pub words_in : z.words ≡ n
  unfolding sizes_in
  words_in = ap (λ (x : Sizes). x.words) q

  pub seconds_in : z.seconds ≡ p.second_count
  unfolding sizes_in
  seconds_in = ap (λ (x : Sizes). x.seconds) q

  pub first_in : z.first ≡ length p.first
  unfolding sizes_in
  first_in = ap (λ (x : Sizes). x.first) q

  pub second_in : z.second ≡ length p.second
  unfolding sizes_in
  second_in = ap (λ (x : Sizes). x.second) q
