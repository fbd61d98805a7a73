-- Calls that answered 10, 11 or 12 make no difference: without them the other calls answer the same
-- numbers, and the record is the same at the end. For every record. Assumes nothing.
use mathlib.Core.Path.{◌≡◌, refl, sym, ap, ◌∙◌}
use mathlib.Core.Bool.{true, false, not}
use mathlib.Core.List.{List, [], ◌∷◌, ◌++◌}
use Prim.Native.Nat.{ℕ}
use borrow.Author.Tests.{not-true}
use Rattle.codes.specs.Chips.{among}
use Rattle.codes.specs.Radio.{radio_of}
use Rattle.codes.specs.Symbol.{symbol_of}
use Rattle.codes.proofs.Tests.{by_test, not_both}
use Rattle.receiver.specs.declared.Receiver.{Receiver}
use Rattle.receiver.specs.declared.Step.{Step}
use Rattle.receiver.specs.Record.{took_symbol}
use Rattle.demands.specs.Calls.{Call, pushing, finishing, taking, called, after, numbers, stray, others, counted}
use Rattle.demands.proofs.Among.{among_pass}
use Rattle.demands.proofs.Given.{of_symbol, push_ways, took_given, finish_ways}

-- the calls left out are those that answered 10, 11 or 12
pub stray_listed : (x : ℕ) → stray x ≡ among x (10 ∷ 11 ∷ 12 ∷ [])
stray_listed x = refl

-- such a call gives the record back as it was
stray_same : (c : Receiver) (x : Call) → stray (called c x).number ≡ true → (called c x).receiver ≡ c
unfolding called
stray_same c (pushing part) =
    push_ways c part (λ (s : Step). stray s.number ≡ true → s.receiver ≡ c) (λ _ t. refl) (λ t. refl) (λ t. refl)
    (λ f o t. not_both _ t (not-true _ (among_pass (λ x. not (stray x)) of_symbol refl
    (took_symbol c (symbol_of (radio_of c.mode) part)).number (took_given c part f o))))
stray_same c finishing = finish_ways c (λ (s : Step). stray s.number ≡ true → s.receiver ≡ c) (λ _ t. refl) (λ t. refl) (λ t. not_both false t refl)
stray_same c (taking buffer) = λ t. refl

-- The record at the end is the same without them.
pub no_difference : (c : Receiver) (xs : List Call) → after c (counted c xs) ≡ after c xs
unfolding after counted
no_difference c [] = refl
no_difference c (x ∷ xs) =
    let d = (called c x).receiver in
    by_test (stray (called c x).number)
    (λ t. rw t (ap (λ (e : Receiver). after e (counted d xs)) (sym (stray_same c x t)) ∙ no_difference d xs))
    (λ t. rw t (no_difference d xs))

-- And so are the numbers that the others answer.
pub same_numbers : (c : Receiver) (xs : List Call) → numbers c (counted c xs) ≡ others (numbers c xs)
unfolding numbers counted others
same_numbers c [] = refl
same_numbers c (x ∷ xs) =
    let d = (called c x).receiver in
    by_test (stray (called c x).number)
    (λ t. rw t (ap (λ (e : Receiver). numbers e (counted d xs)) (sym (stray_same c x t)) ∙ same_numbers d xs))
    (λ t. rw t (ap (λ (ns : List ℕ). (called c x).number ∷ ns) (same_numbers d xs)))

-- Put in anywhere, such a call leaves the list of the others as it was.
pub stray_between : (c : Receiver) (xs : List Call) (x : Call) (ys : List Call)
    → stray (called (after c xs) x).number ≡ true → counted c (xs ++ x ∷ ys) ≡ counted c (xs ++ ys)
unfolding after counted
stray_between c [] x ys t = rw t (ap (λ (d : Receiver). counted d ys) (stray_same c x t))
stray_between c (z ∷ xs) x ys t =
    let d = (called c z).receiver in
    by_test (stray (called c z).number)
    (λ w. rw w (stray_between d xs x ys t))
    (λ w. rw w (ap (λ (zs : List Call). z ∷ zs) (stray_between d xs x ys t)))

-- Take never changes the record, whatever it answers, so it can be asked again.
pub take_again : (c : Receiver) (xs : List Call) (buffer : List ℕ) (ys : List Call) → after c (xs ++ taking buffer ∷ ys) ≡ after c (xs ++ ys)
unfolding after called
take_again c [] buffer ys = refl
take_again c (z ∷ xs) buffer ys = take_again (called c z).receiver xs buffer ys
