-- Sums over two lists put together, and over the front of a list, one element after another.
use Rattle.std.proofs.Common.{◌≡◌, ℕ, ◌+◌, ◌<◌, List, [], ◌∷◌, ◌++◌, length, get_or, take, ℤ, ◌+ℤ◌, Some, None, Option, ap, ◌∙◌, arith}
use borrow.Author.Differences.{ints}
use Rattle.std.proofs.lemmas.List.{take_more}
use Rattle.wires.specs.declared.terminal.Terminal.{Terminal}
use Rattle.wires.specs.Sums.{sum, total}
use Rattle.wires.specs.Wiring.{seated, row_adds}

pub sum_append : {A : Type 0} (f : A → ℤ) (xs ys : List A) → sum f (xs ++ ys) ≡ sum f xs +ℤ sum f ys
sum_append f [] ys = omega (arith, ints)
sum_append f (x ∷ xs) ys = let h = sum_append f xs ys in omega (arith, ints)

pub total_append : {A : Type 0} (f : A → ℕ) (xs ys : List A) → total f (xs ++ ys) ≡ total f xs + total f ys
total_append f [] ys = omega arith
total_append f (x ∷ xs) ys = let h = total_append f xs ys in omega arith

pub sum_more : {A : Type 0} (f : A → ℤ) (xs : List A) (i : ℕ) (d : A) → i < length xs → sum f (take (i + 1) xs) ≡ sum f (take i xs) +ℤ f (get_or xs i d)
sum_more f xs i d h = let e = sum_append f (take i xs) (get_or xs i d ∷ []) in ap (sum f) (take_more xs i d h) ∙ omega (arith, ints)

pub total_more : {A : Type 0} (f : A → ℕ) (xs : List A) (i : ℕ) (d : A) → i < length xs → total f (take (i + 1) xs) ≡ total f (take i xs) + f (get_or xs i d)
total_more f xs i d h = let e = total_append f (take i xs) (get_or xs i d ∷ []) in ap (total f) (take_more xs i d h) ∙ omega arith

seated_push : (f : Terminal → ℤ) (rows : List (Option Terminal)) (r : Option Terminal) → sum f (seated (rows ++ r ∷ [])) ≡ sum f (seated rows) +ℤ row_adds f r
seated_push f [] (Some t) = omega (arith, ints)
seated_push f [] None = omega (arith, ints)
seated_push f (Some t ∷ rows) r = ap (λ z. f t +ℤ z) (seated_push f rows r) ∙ omega (arith, ints)
seated_push f (None ∷ rows) r = seated_push f rows r

pub seated_more : (f : Terminal → ℤ) (rows : List (Option Terminal)) (i : ℕ) (d : Option Terminal) → i < length rows → sum f (seated (take (i + 1) rows)) ≡ sum f (seated (take i rows)) +ℤ row_adds f (get_or rows i d)
seated_more f rows i d h = ap (λ rs. sum f (seated rs)) (take_more rows i d h) ∙ seated_push f (take i rows) (get_or rows i d)
