-- Laws of the small tools. Assumes nothing.
use Prim.Native.Nat.{ℕ, zero, suc, ◌+◌, ◌≤◌, ◌<◌}
use mathlib.Core.Path.{◌≡◌, refl, sym, ap, ◌∙◌}
use mathlib.Core.Bool.{Bool, true, false, not, ◌&&◌}
use mathlib.Core.List.{List, [], ◌∷◌, ◌++◌}
use native.Mathlib.Nat.{le_of_suc-le-suc, not-suc-le-zero, add-suc, suc-add}
use native.Mathlib.Omega.{arith}
use lib.ListN.{length, get_or}
use lib.Dec.{eqb, leb}
use borrow.Author.Tests.{eqb-true, eq-eqb, leb-true}
use Rattle.std.specs.Prelude.{Option, Some, None, Result, Ok, Err}
use Rattle.std.specs.Option.{ok_or}
use Rattle.format.specs.Tools.{pick, both, listed, range, same, within}
use Rattle.format.specs.Signals.{refuse, or_else}

-- by a test's value
pub cases {ℓ} : {X : Type ℓ} (t : Bool) → (t ≡ true → X) → (t ≡ false → X) → X
cases true f g = f refl
cases false f g = g refl

pub both_true : (a b : Bool) → both a b ≡ true → (a ≡ true) × (b ≡ true)
both_true true b h = (refl, h)
both_true false b h = let z : ◌≡◌ {A = Bool} true false = cc in (sym z, absurd (never z))
  where
    never : true ≡ false → ⊥
    never e = let y : ◌≡◌ {A = ℕ} 0 1 = cc in omega arith

pub both_make : (a b : Bool) → a ≡ true → b ≡ true → both a b ≡ true
both_make a b p q = rw (p, q)

pub both_false : (a : Bool) → both a false ≡ false
both_false true = refl
both_false false = refl

pub both_one : (a : Bool) → both a true ≡ a
both_one true = refl
both_one false = refl

pub both_assoc : (a b c : Bool) → both (both a b) c ≡ both a (both b c)
both_assoc true b c = refl
both_assoc false b c = refl

-- the code's "and"
pub and_both : (a b : Bool) → (a && b) ≡ both a b
and_both true b = refl
and_both false b = refl

pub and_three : (a b c : Bool) → (a && b) && c ≡ both a (both b c)
and_three true b c = and_both b c
and_three false b c = refl

pub and_four : (a b c d : Bool) → ((a && b) && c) && d ≡ both a (both b (both c d))
and_four true b c d = and_three b c d
and_four false b c d = refl

pub both_and : (a b c : Bool) → both (a && b) c ≡ both a (both b c)
both_and true b c = refl
both_and false b c = refl

pub not-false : (a : Bool) → not a ≡ false → a ≡ true
not-false true h = refl
not-false false h = sym h

-- an accepted chain of tests: this one failed, and the later ones accept
pub refuse-zero : (n : ℕ) (t : Bool) (later : ℕ) → refuse (suc n) t later ≡ 0 → (t ≡ false) × (later ≡ 0)
refuse-zero n true later h = absurd (omega arith)
refuse-zero n false later h = (refl, h)

pub refuse-most : (n : ℕ) (t : Bool) (m : ℕ) {later : ℕ} → n ≤ m → later ≤ m → refuse n t later ≤ m
refuse-most n true m h k = h
refuse-most n false m h k = k

-- an accepted pair of tests, and one that gives more than the first can
pub or_else-zero : (n later : ℕ) → or_else n later ≡ 0 → (n ≡ 0) × (later ≡ 0)
or_else-zero zero later h = (refl, h)
or_else-zero (suc n) later h = absurd (omega arith)

pub or_else-small : (m n later : ℕ) → n ≤ m → m < or_else n later → n ≡ 0
or_else-small m zero later h k = refl
or_else-small m (suc n) later h k = absurd (omega arith)

pub refuse_pass : (n : ℕ) (t : Bool) (later : ℕ) → t ≡ false → refuse n t later ≡ later
refuse_pass n t later h = rw h

pub same_refl : (xs : List ℕ) → same xs xs ≡ true
same_refl [] = refl
same_refl (x ∷ xs) = both_make (eqb x x) (same xs xs) (eq-eqb x x refl) (same_refl xs)

pub same_eq : (xs ys : List ℕ) → xs ≡ ys → same xs ys ≡ true
same_eq xs ys e = rw e (same_refl ys)

pub same_true : (xs ys : List ℕ) → same xs ys ≡ true → xs ≡ ys
same_true [] [] h = refl
same_true [] (y ∷ ys) h = cc
same_true (x ∷ xs) [] h = cc
same_true (x ∷ xs) (y ∷ ys) h =
    let t = both_true (eqb x y) (same xs ys) h in
    let p : x ≡ y = eqb-true x y t.0 in
    let q : xs ≡ ys = same_true xs ys t.1 in
    cc

pub within_true : (a b n : ℕ) → within a b n ≡ true → (a ≤ n) × (n ≤ b)
within_true a b n h = let t = both_true (leb a n) (leb n b) h in (leb-true a n t.0, leb-true n b t.1)

-- ---- listed

pub length-listed : (n : ℕ) (f : ℕ → ℕ) → length (listed n f) ≡ n
unfolding listed
length-listed zero f = refl
length-listed (suc n) f = ap suc (length-listed n (λ k. f (suc k)))

pub get_or_listed : (n : ℕ) (f : ℕ → ℕ) (i : ℕ) → i < n → get_or (listed n f) i 0 ≡ f i
unfolding listed
get_or_listed zero f i h = absurd (not-suc-le-zero h)
get_or_listed (suc n) f zero h = refl
get_or_listed (suc n) f (suc i) h = get_or_listed n (λ k. f (suc k)) i (le_of_suc-le-suc h)

pub length-range : (a n : ℕ) → length (range a n) ≡ n
unfolding range
length-range a zero = refl
length-range a (suc n) = ap suc (length-range (suc a) n)

pub range_snoc : (a n : ℕ) → range a (suc n) ≡ range a n ++ (a + n) ∷ []
unfolding range
range_snoc a zero = simp (native.Mathlib.Nat.add-zero)
range_snoc a (suc n) = ap (λ (l : List ℕ). a ∷ l) (range_snoc (suc a) n ∙ simp (suc-add, add-suc))

-- ---- a number that is 0 for none

pub none_of : (t : Bool) (n : ℕ) → (t ≡ true → 1 ≤ n) → 0 ≡ pick t n 0 → None ≡ pick t (Some n) None
none_of true n h e = absurd (omega (arith, h refl))
none_of false n h e = refl

pub some_of : (t : Bool) (n x : ℕ) → 1 ≤ x → x ≡ pick t n 0 → Some x ≡ pick t (Some n) None
some_of true n x l e = ap Some e
some_of false n x l e = absurd (omega arith)

-- and back, of any value
module _ {A : Type 0} where
  pub some_is : (t : Bool) (n x : A) → Some x ≡ pick t (Some n) None → (t ≡ true) × (x ≡ n)
  some_is true n x e = (refl, cc)
  some_is false n x e = cc

  pub none_is : (t : Bool) (n : A) → None ≡ pick t (Some n) None → t ≡ false
  none_is true n e = cc
  none_is false n e = refl

  -- what is not some is none
  pub not_some : (t : Bool) (n : A) (o : Option A) → o ≡ pick t (Some n) None → ((x : A) → o ≡ Some x → ⊥) → t ≡ false
  not_some true n o e h = absurd (h n e)
  not_some false n o e h = refl

-- the same by what `ok_or` gave
module _ {A E : Type 0} (t : Bool) (n : A) (o : Option A) (e : E) (r : Result A E) (is : o ≡ pick t (Some n) None) (by : r ≡ ok_or o e) where
  pub ok_is : (x : A) → r ≡ Ok x → (t ≡ true) × (x ≡ n)
  ok_is x h = go t (sym h ∙ by ∙ ap (λ (o : Option A). ok_or o e) is)
    where
      go : (t : Bool) → Ok x ≡ ok_or (pick t (Some n) None) e → (t ≡ true) × (x ≡ n)
      go true h = (refl, cc)
      go false h = cc

  pub err_is : (d : E) → r ≡ Err d → (t ≡ false) × (d ≡ e)
  err_is d h = go t (sym h ∙ by ∙ ap (λ (o : Option A). ok_or o e) is)
    where
      go : (t : Bool) → Err d ≡ ok_or (pick t (Some n) None) e → (t ≡ false) × (d ≡ e)
      go true h = cc
      go false h = (refl, cc)
