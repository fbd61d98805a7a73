-- The reading order in the document's words: the reading is refused with a number at a symbol just
-- where the symbols before it read on and that is wrong with it (`Refuses`). For every sound radio.
-- Assumes nothing.
use mathlib.Core.Path.{◌≡◌, refl, sym, ap, ◌∙◌, subst}
use mathlib.Core.Bool.{true, false}
use mathlib.Core.Logic.{◌↔◌, ⊎_elim}
use mathlib.Core.List.{List, [], ◌∷◌, ◌++◌}
use Prim.Native.Nat.{ℕ, zero, suc, ◌+◌, ◌*◌, ◌%◌, ◌≤◌, ◌<◌}
use native.Mathlib.Nat.{zero-add, zero-mul, add-mul, eq-or-lt_of_le}
use native.Mathlib.Omega.{arith}
use lib.Dec.{eqb, ltb}
use lib.ListN.{length, get_or, take, length-append}
use lib.Seq.{get_or-take, take_all, take-append_seam, length-take-le}
use borrow.Author.Tests.{eq-eqb, ne_eqb, eqb-false, ltb-true, ltb-false}
use Rattle.codes.specs.Numbers.{DONE, NOROOM, RUNOUT, NOCHIP, LOST, PREAMBLE, BADSTART, MORE}
use Rattle.codes.specs.Chips.{pick, bad}
use Rattle.codes.specs.Radio.{Radio, Sound}
use Rattle.codes.specs.Symbol.{symbol_of}
use Rattle.codes.specs.declared.Symbol.{Symbol}
use Rattle.codes.proofs.Tests.{by_test, by_pick, upto}
use Rattle.codes.proofs.Chips.{chip_at_lem, bad_at, window_chip}
use Rattle.codes.proofs.Unique.{some_words, nochip_of, chips_numbers, of_symbol_lem, lost_of, of_lost}
use Rattle.frame.specs.Frame.{per_octet}
use Rattle.order.specs.Received.{decode, polarity_of, received, octet_at}
use Rattle.order.specs.Order.{refused, window, whole, values, length_in, verdict, concluded, reading}
use Rattle.order.proofs.Carried.{values_snoc}
use Rattle.order.proofs.Raw.{decode_long, per_positive}
use Rattle.order.proofs.Rules.{Clear, clear_rules, rules_ways, wrong_7, wrong_8, wrong_3}
use Rattle.order.proofs.Windows.{whole_at_lem, seen, seen_next, rest, rest_out}
use Rattle.demands.specs.Refusals.{ReadAs, GoesOn, Wrong, runs_out, no_chip, lost, not_zero, no_start, no_room, Refuses}
use Rattle.demands.proofs.Back.{received_take}
use Rattle.demands.proofs.Octet.{octet_take}
use Rattle.demands.proofs.Path.{raws_to, refused_parts, not_refused, step, passed_to}
use Rattle.demands.proofs.Read.{window_in, in_window, window_sized, window_good, read_stands, read_more}
use Rattle.demands.proofs.Stands.{values_long, raws_are}

module _ (r : Radio) (room : ℕ) where
  -- ---- raw symbols, and one more

  -- where the reading goes on after raw symbols, more is wanted after each of them
  goes_more : (bs : List ℕ) → GoesOn r room bs → (j : ℕ) → j < length bs → verdict r room j (take (suc j) bs) ≡ MORE
  goes_more bs G j h =
      clear_rules (per_octet r) room j _ _ _
      (record {
        preamble = λ l. get_or-take (suc j) bs j 0 (omega arith) ∙ G.preamble j h l;
        started = λ e. octet_take r 4 (suc j) bs (omega arith) ∙ G.start (omega arith);
        fits = λ e. omega (arith, n_is (omega arith), G.fits (omega arith));
      })
      ∙ rw (ne_eqb (suc j) ((6 + length_in r (take (suc j) bs)) * per_octet r) early)
    where
      n_is : 6 * per_octet r ≤ suc j → length_in r (take (suc j) bs) ≡ length_in r bs
      n_is l = ap (λ (x : ℕ). x % 128) (octet_take r 5 (suc j) bs l)

      early : suc j ≡ (6 + length_in r (take (suc j) bs)) * per_octet r → ⊥
      early e =
          let l : 6 * per_octet r ≤ suc j = omega (arith, add-mul 6 (length_in r (take (suc j) bs)) (per_octet r)) in
          omega (arith, ap (λ (n : ℕ). (6 + n) * per_octet r) (n_is l), G.more (omega arith))

  -- and with one more at which nothing is wrong, and with which they are not a frame, it goes on
  goes_next : (bs : List ℕ) (m : ℕ) → length bs ≡ suc m → GoesOn r room (take m bs) → Clear (per_octet r) room m (get_or bs m 0) (octet_at r 4 bs) (length_in r bs)
      → eqb (suc m) ((6 + length_in r bs) * per_octet r) ≡ false → GoesOn r room bs
  goes_next bs m long G C n =
      record {
        preamble = λ s h l. ⊎_elim
            (λ (e : s ≡ m). rw e (C.preamble (omega arith)))
            (λ (b : s < m). sym (get_or-take m bs s 0 b) ∙ G.preamble s (omega (arith, front)) l)
            (eq-or-lt_of_le (upto s m (omega arith)));
        start = λ h. last_or 5 h (λ e. C.started e) (λ b. sym (octet_take r 4 m bs b) ∙ G.start (omega (arith, front)));
        fits = λ h. last_or 6 h (λ e. C.fits e) (λ b. omega (arith, n_is b, G.fits (omega (arith, front))));
        more = λ h.
            let u : suc m ≡ (6 + length_in r bs) * per_octet r → ⊥ = eqb-false _ _ n in
            last_or 6 h (λ e. omega (arith, u, add-mul 6 (length_in r bs) (per_octet r)))
            (λ b. omega (arith, u, ap (λ (k : ℕ). (6 + k) * per_octet r) (n_is b), G.more (omega (arith, front)), front));
      }
    where
      front : length (take m bs) ≡ m
      front = length-take-le m bs (omega arith)

      n_is : 6 * per_octet r ≤ m → length_in r (take m bs) ≡ length_in r bs
      n_is b = ap (λ (x : ℕ). x % 128) (octet_take r 5 m bs b)

      last_or : {A : Type 0} (k : ℕ) → k * per_octet r ≤ length bs → (suc m ≡ k * per_octet r → A) → (k * per_octet r ≤ m → A) → A
      last_or k h f g =
          ⊎_elim (λ (e : k * per_octet r ≡ suc m). f (sym e)) (λ (l : k * per_octet r < suc m). g (upto _ m l)) (eq-or-lt_of_le (omega (arith, h, long)))

-- what is wrong has another number than success
pub wrong_number : (r : Radio) (room : ℕ) (chips vs : List ℕ) (x : ℕ) → Wrong r room chips vs x → x ≡ DONE → ⊥
wrong_number r room chips vs x (runs_out e _) z = omega (arith, e, z)
wrong_number r room chips vs x (no_chip e _ _ _ _) z = omega (arith, e, z)
wrong_number r room chips vs x (lost e _ _ _) z = omega (arith, e, z)
wrong_number r room chips vs x (not_zero e _ _ _ _) z = omega (arith, e, z)
wrong_number r room chips vs x (no_start e _ _ _ _) z = omega (arith, e, z)
wrong_number r room chips vs x (no_room e _ _ _ _) z = omega (arith, e, z)

-- ---- the reading

module _ (r : Radio) (S : Sound r) (room : ℕ) (chips : List ℕ) where
  abbrev ws : List (List ℕ)
  ws = whole r chips

  -- the values of the first m symbols
  abbrev vs_to : ℕ → List ℕ
  vs_to m = values (take m (seen r ws))

  raws_long : (vs : List ℕ) → length (received r vs) ≡ length vs
  raws_long vs = decode_long r (polarity_of r vs) vs

  -- ---- what is wrong is refused

  module _ (vs : List ℕ) (A : ReadAs r chips vs) (G : GoesOn r room (received r vs)) where
    -- the reading comes to the symbol after them
    passed : reading r room chips ≡ rest r ws room (length vs)
    unfolding reading
    passed =
        let T = read_stands r S chips vs A in
        passed_to r room ws (length vs) 0 (length vs) (zero-add (length vs)) T.enough (λ j _ l. ap (λ (x : Symbol). x.number) (T.stands j l))
        (λ j _ l. rw (raws_are r ws vs _ T (suc j) l) (goes_more r room (received r vs) G j (omega (arith, raws_long vs))))

    -- whose chips aren't read
    unread : (x : ℕ) → suc (length vs) * r.size ≤ length chips → (symbol_of r (window r chips (length vs))).number ≡ x → eqb x DONE ≡ false
        → reading r room chips ≡ refused x (length vs)
    unread x w e d =
        let h = window_in r S chips (length vs) w in
        passed ∙ step r room ws (length vs) h ∙ rw (whole_at_lem r chips (length vs) h, e, d)

    -- or which the rules refuse
    module _ (v : ℕ) (B : ReadAs r chips (vs ++ v ∷ [])) where
      abbrev bs : List ℕ
      bs = received r (vs ++ v ∷ [])

      ruled : (x : ℕ) → verdict r room (length vs) bs ≡ x → eqb x MORE ≡ false → eqb x DONE ≡ false → reading r room chips ≡ refused x (length vs)
      unfolding concluded
      ruled x e m d =
          let T = read_stands r S chips (vs ++ v ∷ []) B in
          let l : length (vs ++ v ∷ []) ≡ suc (length vs) = length-append vs (v ∷ []) ∙ omega arith in
          let t : raws_to r ws (suc (length vs)) ≡ bs =
          raws_are r ws (vs ++ v ∷ []) _ T (suc (length vs)) (omega (arith, l)) ∙ take_all (suc (length vs)) bs (omega (arith, l, raws_long (vs ++ v ∷ []))) in
          passed ∙ step r room ws (length vs) (omega (arith, l, T.enough))
          ∙ rw (eq-eqb _ DONE (ap (λ (x : Symbol). x.number) (T.stands (length vs) (omega (arith, l)))), t, e, m, d)

    order_refuses : (x : ℕ) → Wrong r room chips vs x → reading r room chips ≡ refused x (length vs)
    order_refuses x (runs_out e l) =
        rw e
        (passed
        ∙ rest_out r ws room (length vs)
        (by_test (ltb (length vs) (length ws))
        (λ t. absurd (omega (arith, in_window r S chips (length vs) (ltb-true _ _ t))))
        (λ t. omega (arith, ltb-false (length vs) (length ws) t, (read_stands r S chips vs A).enough))))
    order_refuses x (no_chip e w i h b) =
        let c = window_chip chips (length vs * r.size) r.size i h in
        let wrong : bad (window r chips (length vs)) ≡ true =
        by_test (bad (window r chips (length vs))) (λ t. t) (λ t. absurd (omega (arith, b, c, chip_at_lem (window r chips (length vs)) t i))) in
        rw e (unread NOCHIP w (ap (λ (y : Symbol). y.number) (nochip_of r (window r chips (length vs)) wrong)) refl)
    order_refuses x (lost e w c f) =
        rw e
        (unread LOST w
        (ap (λ (y : Symbol). y.number)
        (lost_of r (window r chips (length vs)) (some_words r S) (record { chip = window_good r S chips (length vs) w c; far = f }))) refl)
    order_refuses x (not_zero e v B h n) = rw e (ruled v B PREAMBLE (wrong_7 (per_octet r) room (length vs) _ _ _ h n) refl refl)
    order_refuses x (no_start e v B h n) =
        rw e
        (ruled v B BADSTART (wrong_8 (per_octet r) room (length vs) _ _ _ (λ l. absurd (omega (arith, per_positive r S))) h n) refl refl)
    order_refuses x (no_room e v B h n) =
        let p = per_positive r S in
        rw e
        (ruled v B NOROOM
        (wrong_3 (per_octet r) room (length vs) _ _ _ (λ l. absurd (omega arith)) (λ l. absurd (omega arith)) h n) refl refl)

  -- ---- and what is refused is wrong

  module _ (x s : ℕ) where
    -- a refusal at the symbol after these values is what is wrong there
    refuses_with : (vs : List ℕ) → ReadAs r chips vs → GoesOn r room (received r vs) → (y : ℕ) → refused y (length vs) ≡ refused x s
        → Wrong r room chips vs y → Refuses r room chips x s
    refuses_with vs A G y e w =
        let p = refused_parts y x (length vs) s e in
        record { values = vs; place = p.1; read = A; on = G; wrong = subst (λ (z : ℕ). Wrong r room chips vs z) p.0 w }

    -- one symbol of a reading that is refused: it is refused there, or further on
    module _ (m : ℕ) (h : m < length ws) (A : ReadAs r chips (vs_to m)) (G : GoesOn r room (received r (vs_to m))) (e : rest r ws room m ≡ refused x s)
        (further : ReadAs r chips (vs_to (suc m)) → GoesOn r room (received r (vs_to (suc m))) → rest r ws room (suc m) ≡ refused x s
        → Refuses r room chips x s) where
      abbrev vs : List ℕ
      vs = vs_to m

      abbrev w : List ℕ
      w = window r chips (length vs)

      vs_long : length vs ≡ m
      vs_long = values_long r ws m (omega arith)

      here : suc (length vs) * r.size ≤ length chips
      here = in_window r S chips (length vs) (omega (arith, vs_long))

      in_w : get_or ws m [] ≡ w
      in_w = whole_at_lem r chips m h ∙ ap (window r chips) (sym vs_long)

      chip_here : (i : ℕ) → i < r.size → get_or chips (length vs * r.size + i) 0 ≡ get_or w i 0
      chip_here i = window_chip chips (length vs * r.size) r.size i

      turn : pick (eqb (symbol_of r w).number DONE)
          (concluded r m (take (suc m) (seen r ws)) (verdict r room m (raws_to r ws (suc m))) (rest r ws room (suc m)))
          (refused (symbol_of r w).number m) ≡ refused x s
      turn = rw in_w at (sym (step r room ws m h) ∙ e)

      -- its chips aren't read
      unread_here : (y : ℕ) → (symbol_of r w).number ≡ y → eqb y DONE ≡ false → Wrong r room chips vs y → Refuses r room chips x s
      unread_here y o d = refuses_with vs A G y (ap (refused y) vs_long ∙ (rw (o, d) at turn))

      -- or they are
      module _ (o : (symbol_of r w).number ≡ DONE) where
        abbrev more : List ℕ
        more = vs ++ (symbol_of r w).value ∷ []

        abbrev read : List ℕ
        read = received r more

        more_are : vs_to (suc m) ≡ more
        more_are =
            ap values (seen_next r ws m h) ∙ values_snoc (take m (seen r ws)) (symbol_of r (get_or ws m []))
            ∙ ap (λ (y : List ℕ). vs ++ (symbol_of r y).value ∷ []) in_w

        reads : ReadAs r chips more
        reads = read_more r S chips vs A here (symbol_of r w).value _ (of_symbol_lem r w (some_words r S) o)

        read_long : length read ≡ suc m
        read_long = raws_long more ∙ length-append vs ((symbol_of r w).value ∷ []) ∙ omega (arith, vs_long)

        before : GoesOn r room (take m read)
        before =
            let f : take m more ≡ vs = ap (λ (k : ℕ). take k more) (sym vs_long) ∙ take-append_seam vs ((symbol_of r w).value ∷ []) in
            subst (GoesOn r room) (sym (received_take r m more ∙ ap (received r) f)) G

        abbrev Then : ℕ → Type 0
        Then z = concluded r m (take (suc m) (seen r ws)) z (rest r ws room (suc m)) ≡ refused x s → Refuses r room chips x s

        turned : concluded r m (take (suc m) (seen r ws)) (verdict r room m read) (rest r ws room (suc m)) ≡ refused x s
        turned =
            ap (λ (us : List ℕ). concluded r m (take (suc m) (seen r ws)) (verdict r room m (received r us)) (rest r ws room (suc m))) (sym more_are)
            ∙ (rw (eq-eqb _ DONE o) at turn)

        ruled_here : Refuses r room chips x s
        unfolding concluded
        ruled_here =
            let v = (symbol_of r w).value in
            rules_ways (per_octet r) room m (get_or read m 0) (octet_at r 4 read) (length_in r read) Then
            (λ l n q. refuses_with vs A G PREAMBLE (ap (refused PREAMBLE) vs_long ∙ q)
            (not_zero refl v reads (omega (arith, vs_long)) (λ z. n (ap (λ (k : ℕ). get_or read k 0) (sym vs_long) ∙ z))))
            (λ l n q. refuses_with vs A G BADSTART (ap (refused BADSTART) vs_long ∙ q) (no_start refl v reads (omega (arith, vs_long)) n))
            (λ l n q. refuses_with vs A G NOROOM (ap (refused NOROOM) vs_long ∙ q) (no_room refl v reads (omega (arith, vs_long)) n))
            (λ C. by_pick Then (eqb (suc m) ((6 + length_in r read) * per_octet r)) DONE MORE (λ _ q. not_refused _ _ _ _ _ _ _ q)
            (λ t q. further (subst (ReadAs r chips) (sym more_are) reads)
            (subst (λ (us : List ℕ). GoesOn r room (received r us)) (sym more_are) (goes_next r room read m read_long before C t)) q))
            turned

      refused_here : Refuses r room chips x s
      refused_here =
          by_test (bad w)
          (λ b.
          let i = bad_at w b in
          let l : i.0 < r.size = omega (arith, i.1, window_sized r S chips (length vs) here) in
          unread_here NOCHIP (ap (λ (y : Symbol). y.number) (nochip_of r w b)) refl (no_chip refl here i.0 l (omega (arith, i.2, chip_here i.0 l))))
          (λ b. ⊎_elim ruled_here
          (λ o. unread_here LOST o refl (lost refl here (λ i l. omega (arith, chip_at_lem w b i, chip_here i l)) (of_lost r w o).far))
          (chips_numbers r w b))

    -- after m symbols, with n left
    refused_from : (n m : ℕ) → m + n ≡ length ws → ReadAs r chips (vs_to m) → GoesOn r room (received r (vs_to m))
        → rest r ws room m ≡ refused x s → Refuses r room chips x s
    refused_from zero m l A G e =
        let k = values_long r ws m (omega arith) in
        refuses_with (vs_to m) A G RUNOUT (ap (refused RUNOUT) k ∙ sym (rest_out r ws room m (omega arith)) ∙ e)
        (runs_out refl
        (by_test (ltb (length chips) (suc (length (vs_to m)) * r.size)) (λ t. ltb-true _ _ t)
        (λ t. absurd (omega (arith, window_in r S chips (length (vs_to m)) (ltb-false _ _ t), k)))))
    refused_from (suc n) m l A G e = refused_here m (omega arith) A G e (refused_from n (suc m) (omega arith))

    -- The reading is refused with x at symbol s just where the symbols before it read on, and that
    -- is wrong with it.
    pub refused_order : (reading r room chips ≡ refused x s) ↔ Refuses r room chips x s
    unfolding reading decode
    refused_order = (
      refused_from (length ws) 0 (zero-add (length ws)) none begun,
      λ R. order_refuses R.values R.read R.on x R.wrong ∙ ap (refused x) R.place,
    )
      where
        none : ReadAs r chips []
        none =
            record {
              long = omega (arith, zero-mul r.size);
              chip = λ i h. absurd (omega (arith, zero-mul r.size));
              known = λ s h. absurd (omega arith);
              near = λ s h. absurd (omega arith);
            }

        begun : GoesOn r room []
        begun =
            let p = per_positive r S in
            record {
              preamble = λ s h l. absurd (omega arith);
              start = λ h. absurd (omega arith);
              fits = λ h. absurd (omega arith);
              more = λ h. absurd (omega arith);
            }
