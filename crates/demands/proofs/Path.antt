-- A reading that is done is a run of symbols: each is read, the rules want more after each but the
-- last, and are done after that. Both ways, for any radio; and a reading that rules refuse after
-- such symbols ends there. Assumes nothing.
use mathlib.Core.Path.{◌≡◌, sym, ap, ◌∙◌}
use mathlib.Core.Bool.{false}
use mathlib.Core.Logic.{⊎_elim}
use mathlib.Core.List.{List, []}
use Prim.Native.Nat.{ℕ, zero, suc, ◌+◌, ◌≤◌, ◌<◌}
use native.Mathlib.Nat.{eq-or-lt_of_le, zero-add}
use native.Mathlib.Omega.{arith}
use lib.Dec.{eqb}
use lib.ListN.{length, get_or, take}
use borrow.Author.Tests.{eqb-true, eq-eqb}
use Rattle.codes.specs.Numbers.{DONE, MORE}
use Rattle.codes.specs.Chips.{pick}
use Rattle.codes.specs.Radio.{Radio}
use Rattle.codes.specs.Symbol.{symbol_of}
use Rattle.codes.proofs.Tests.{by_test}
use Rattle.order.specs.Received.{received}
use Rattle.order.proofs.Windows.{seen, seen_front, seen_next, rest, rest_more, rest_out}
use Rattle.order.specs.Order.{Answer, refused, done, values, verdict, succeeded, concluded, taking}

-- the raw symbols of the first k windows
abbrev pub raws_to : Radio → List (List ℕ) → ℕ → List ℕ
raws_to r ws k = received r (values (take k (seen r ws)))

-- from symbol m on, the reading goes to symbol k and is done there
pub record Run (r : Radio) (room : ℕ) (ws : List (List ℕ)) (m k : ℕ) : Type 0 where
  pub from : m ≤ k
  pub inside : k < length ws
  pub good : (j : ℕ) → m ≤ j → j ≤ k → (symbol_of r (get_or ws j [])).number ≡ DONE
  pub more : (j : ℕ) → m ≤ j → j < k → verdict r room j (raws_to r ws (suc j)) ≡ MORE
  pub last : verdict r room k (raws_to r ws (suc k)) ≡ DONE

-- what it answers
abbrev pub ending : Radio → List (List ℕ) → ℕ → Answer
ending r ws k = succeeded r k (take (suc k) (seen r ws))

-- the parts of an answer
number_of : Answer → ℕ
number_of (refused x s) = x
number_of (done s report count gap polarity) = 0

done_number : Answer → ℕ
done_number (refused x s) = 1
done_number (done s report count gap polarity) = 0

place_of : Answer → ℕ
place_of (refused x s) = s
place_of (done s report count gap polarity) = s

report_of : Answer → List ℕ
report_of (refused x s) = []
report_of (done s report count gap polarity) = report

count_of : Answer → ℕ
count_of (refused x s) = 0
count_of (done s report count gap polarity) = count

gap_part : Answer → ℕ
gap_part (refused x s) = 0
gap_part (done s report count gap polarity) = gap

polarity_part : Answer → ℕ
polarity_part (refused x s) = 0
polarity_part (done s report count gap polarity) = polarity

-- answers that are done and equal have equal parts
pub same_parts : (p q c d g h u v : ℕ) (xs ys : List ℕ) → done p xs c g u ≡ done q ys d h v
    → (p ≡ q) × (xs ≡ ys) × (c ≡ d) × (g ≡ h) × (u ≡ v)
unfolding place_of report_of count_of gap_part polarity_part
same_parts p q c d g h u v xs ys e = (ap place_of e, ap report_of e, ap count_of e, ap gap_part e, ap polarity_part e)

-- and so have refusals, of which none is done
pub refused_parts : (x y s t : ℕ) → refused x s ≡ refused y t → (x ≡ y) × (s ≡ t)
unfolding number_of place_of
refused_parts x y s t e = (ap number_of e, ap place_of e)

pub not_refused : {A : Type 0} (place count gap polarity x s : ℕ) (report : List ℕ) → done place report count gap polarity ≡ refused x s → A
unfolding done_number
not_refused place count gap polarity x s report e = absurd (omega (arith, ap done_number e))

module _ (r : Radio) (room : ℕ) (ws : List (List ℕ)) where
  -- one symbol of the reading
  pub step : (m : ℕ) → m < length ws → rest r ws room m
      ≡ pick (eqb (symbol_of r (get_or ws m [])).number DONE)
      (concluded r m (take (suc m) (seen r ws)) (verdict r room m (raws_to r ws (suc m))) (rest r ws room (suc m)))
      (refused (symbol_of r (get_or ws m [])).number m)
  unfolding taking
  step m h = rest_more r ws room m h ∙ rw (← seen_next r ws m h, seen_front r ws m (omega arith))

  -- symbols that are read, and after each of which more is wanted, are passed
  pub passed_to : (n m k : ℕ) → m + n ≡ k → k ≤ length ws → ((j : ℕ) → m ≤ j → j < k → (symbol_of r (get_or ws j [])).number ≡ DONE)
      → ((j : ℕ) → m ≤ j → j < k → verdict r room j (raws_to r ws (suc j)) ≡ MORE) → rest r ws room m ≡ rest r ws room k
  unfolding concluded
  passed_to zero m k e h good more = let q : m ≡ k = omega arith in rw q
  passed_to (suc n) m k e h good more =
      step m (omega arith)
      ∙ rw (eq-eqb _ DONE (good m (omega arith) (omega arith)), more m (omega arith) (omega arith))
      (passed_to n (suc m) k (omega arith) h (λ j u. good j (omega arith)) (λ j u. more j (omega arith)))

  -- a run's reading is done at its last symbol
  pub run_reading : (k : ℕ) → Run r room ws 0 k → rest r ws room 0 ≡ ending r ws k
  unfolding concluded
  run_reading k R =
      passed_to k 0 k (zero-add k) (omega (arith, R.inside)) (λ j u v. R.good j u (omega arith)) R.more
      ∙ step k R.inside
      ∙ rw (eq-eqb _ DONE (R.good k R.from (omega arith)), R.last)

  -- and one that the rules refuse there ends there
  pub run_refused : (k x : ℕ) → k < length ws → ((j : ℕ) → j ≤ k → (symbol_of r (get_or ws j [])).number ≡ DONE)
      → ((j : ℕ) → j < k → verdict r room j (raws_to r ws (suc j)) ≡ MORE) → verdict r room k (raws_to r ws (suc k)) ≡ x
      → eqb x MORE ≡ false → eqb x DONE ≡ false → rest r ws room 0 ≡ refused x k
  unfolding concluded
  run_refused k x h good more e m d =
      passed_to k 0 k (zero-add k) (omega arith) (λ j u v. good j (omega arith)) (λ j u. more j)
      ∙ step k h
      ∙ rw (eq-eqb _ DONE (good k (omega arith)), e, m, d)

  -- a reading that is done is that of a run
  pub reading_run : (n m place count gap polarity : ℕ) (report : List ℕ) → m + n ≡ length ws
      → rest r ws room m ≡ done place report count gap polarity → (k : ℕ) × Run r room ws m k × (ending r ws k ≡ done place report count gap polarity)
  unfolding concluded done_number
  reading_run zero m place count gap polarity report l e =
      absurd (omega (arith, ap done_number (sym (rest_out r ws room m (omega arith)) ∙ e)))
  reading_run (suc n) m place count gap polarity report l e =
      let q = sym (step m h) ∙ e in
      by_test (eqb (symbol_of r (get_or ws m [])).number DONE)
      (λ a. by_test (eqb x MORE)
      (λ b. further (eqb-true _ _ a) (eqb-true _ _ b) (reading_run n (suc m) place count gap polarity report (omega arith) (rw (a, b) at q)))
      (λ b. by_test (eqb x DONE)
      (λ c. (
        m,
        record {
          from = omega arith;
          inside = h;
          good = λ j u v. let w : j ≡ m = omega arith in
              rw w (eqb-true _ _ a);
          more = λ j u v. absurd (omega arith);
          last = eqb-true _ _ c;
        },
        rw (a, b, c) at q,
      ))
      (λ c. absurd (omega (arith, ap done_number (rw (a, b, c) at q))))))
      (λ a. absurd (omega (arith, ap done_number (rw a at q))))
    where
      h : m < length ws
      h = omega arith

      x : ℕ
      x = verdict r room m (raws_to r ws (suc m))

      further : (symbol_of r (get_or ws m [])).number ≡ DONE → x ≡ MORE → (k : ℕ) × Run r room ws (suc m) k
          × (ending r ws k ≡ done place report count gap polarity) → (k : ℕ) × Run r room ws m k × (ending r ws k ≡ done place report count gap polarity)
      further a b (k, R, o) = (
        k,
        record {
          from = omega (arith, R.from);
          inside = R.inside;
          good = λ j u v. ⊎_elim (λ (w : m ≡ j). rw (← w) a) (λ (w : m < j). R.good j w v) (eq-or-lt_of_le u);
          more = λ j u v. ⊎_elim (λ (w : m ≡ j). rw (← w) b) (λ (w : m < j). R.more j w v) (eq-or-lt_of_le u);
          last = R.last;
        },
        o,
      )
