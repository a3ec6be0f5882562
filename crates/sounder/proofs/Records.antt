-- One record: what is pending while it is taken, and the sums that have come out of it.
use Rattle.std.proofs.Common.{◌≡◌, ℕ, suc, ◌+◌, ◌-◌, ◌<◌, ◌≤◌, Bool, true, false, cond, eqb, ltb, List, [], ◌∷◌, ◌++◌, length, sym, refl, ap, ◌∙◌, ap₂, ⊎_elim, add-one, arith, length-append}
use lib.ListN.{get_or-append}
use Rattle.std.proofs.lemmas.Bool.{lt-ltb, le-ltb, eq-eqb, ne_eqb, cond-true, cond-false, cases_order}
use Rattle.kinds.specs.Samples.{RingOps, RingLaws, ConjugationLaws}
use Rattle.sums.specs.Codes.{matching}
use Rattle.sums.specs.Rooms.{at, correlation, left_by}
use Rattle.sums.proofs.Pushes.{left_same, left_more, correlation_out, correlation_same}

module _ {S : Type 0} (k : RingOps S) (span : ℕ) (code : ℕ → S) where
  -- the part of sum i that the record z makes so far
  abbrev pub part_of : List S → ℕ → S
  part_of z i = cond (ltb (i + (span - 1)) (length z)) (correlation k span code (at k z) i) k.zero

  -- what is pending is what the samples of z leave
  abbrev pub Left : (ℕ → S) → List S → Type 0
  Left pending z = (j : ℕ) → pending j ≡ left_by k span code (at k z) (length z) j

  pub part_none : (i : ℕ) → part_of [] i ≡ k.zero
  part_none i = cond-false _ _ _ (le-ltb (i + (span - 1)) 0 (omega arith))

  module _ (ring : RingLaws k) (bar : ConjugationLaws k) (one : 1 ≤ span) (z : List S) (x : S) where
    abbrev more : List S
    more = z ++ (x ∷ [])

    longer : length more ≡ suc (length z)
    longer = length-append z (x ∷ []) ∙ add-one (length z)

    before : (i : ℕ) → i < length z → at k more i ≡ at k z i
    before i l = get_or-append z (x ∷ []) k.zero i l

    last : (w : List S) → at k (w ++ (x ∷ [])) (length w) ≡ x
    last [] = refl
    last (y ∷ w) = last w

    module _ (pending : ℕ → S) (left : Left pending z) where
      was : (j : ℕ) → pending j ≡ left_by k span code (at k more) (length z) j
      was j = left j ∙ left_same ring span code (at k z) (at k more) (length z) j (λ i l. sym (before i l))

      -- one more sample is pushed
      pub left_next : Left (λ j. matching k span code pending x (j + 1)) more
      left_next j = ap (λ w. matching k span code pending w (j + 1)) (sym (last z)) ∙ left_more ring span code (at k more) pending (length z) was j ∙ ap (λ t. left_by k span code (at k more) t j) (sym longer)

      out : (i : ℕ) → i + (span - 1) ≡ length z → matching k span code pending x 0 ≡ correlation k span code (at k more) i
      out i e = ap (λ w. matching k span code pending w 0) (sym (last z)) ∙ correlation_out ring bar span code (at k more) pending i (length z) (omega arith) was

      -- the part of sum i with what comes out added, if it comes out now
      abbrev grown : ℕ → S
      grown i = cond (eqb (i + (span - 1)) (length z)) (k.add (part_of z i) (matching k span code pending x 0)) (part_of z i)

      came : (i : ℕ) → i + (span - 1) ≡ length z → grown i ≡ part_of more i
      came i e =
          cond-true _ _ _ (eq-eqb _ _ e)
          ∙ ap₂ k.add (cond-false _ _ _ (le-ltb (i + (span - 1)) (length z) (omega arith))) (out i e)
          ∙ ring.zero_add _
          ∙ sym (cond-true _ _ _ (lt-ltb (i + (span - 1)) (length more) (let l = longer in omega arith)))

      had : (i : ℕ) → i + (span - 1) < length z → grown i ≡ part_of more i
      had i b =
          cond-false _ _ _ (ne_eqb (i + (span - 1)) (length z) (omega arith))
          ∙ cond-true _ _ _ (lt-ltb (i + (span - 1)) (length z) b) ∙ correlation_same ring span code (at k z) (at k more) i (λ j l. sym (before (j + i) (omega arith))) ∙ sym (cond-true _ _ _ (lt-ltb (i + (span - 1)) (length more) (let l = longer in omega arith)))

      not_yet : (i : ℕ) → length z < i + (span - 1) → grown i ≡ part_of more i
      not_yet i b =
          cond-false _ _ _ (ne_eqb (i + (span - 1)) (length z) (omega arith))
          ∙ cond-false _ _ _ (le-ltb (i + (span - 1)) (length z) (omega arith)) ∙ sym (cond-false _ _ _ (le-ltb (i + (span - 1)) (length more) (let l = longer in omega arith)))

      pub part_next : (i : ℕ) → grown i ≡ part_of more i
      part_next i = ⊎_elim (came i) (⊎_elim (had i) (not_yet i)) (cases_order (i + (span - 1)) (length z))

module _ {S : Type 0} {k : RingOps S} (ring : RingLaws k) where
  -- what is added to one of two parts
  pub grow_first : (b : Bool) (x y o : S) → cond b (k.add (k.add x y) o) (k.add x y) ≡ k.add (cond b (k.add x o) x) y
  grow_first true x y o = ring.add_assoc x y o ∙ ap (k.add x) (ring.add_comm y o) ∙ sym (ring.add_assoc x o y)
  grow_first false x y o = refl

  pub grow_second : (b : Bool) (x y o : S) → cond b (k.add (k.add x y) o) (k.add x y) ≡ k.add x (cond b (k.add y o) y)
  grow_second true x y o = ring.add_assoc x y o
  grow_second false x y o = refl
