-- What a sounder answers to the calls of a sounding, and what it then holds.
use Rattle.std.proofs.Common.{◌≡◌, ℕ, ◌+◌, ◌*◌, ◌<◌, ◌≤◌, Bool, true, false, ◌&&◌, leb, List, [], ◌∷◌, ◌++◌, length, get_or, take, ℤ, IfOk, Some, None, Ok, Err, Option, Result, sym, refl, ap, ◌∙◌, subst, arith}
use Rattle.std.proofs.lemmas.List.{take_more}
use Rattle.std.proofs.lemmas.Bool.{lt-ltb, eq-eqb, cond-true, false≢true, and_parts, leb-true}
use Rattle.kinds.specs.Kinds.{KindModel}
use Rattle.sums.specs.Codes.{Codes}
use Rattle.calls.specs.declared.phase.Phase.TheVariants.{Idle, FirstRecord, SecondRecord, Complete}
use Rattle.calls.specs.declared.call.Call.{Call}
use Rattle.calls.specs.declared.call.Call.TheVariants.{Open, Sample, Turn, Close}
use Rattle.calls.specs.declared.call.Answer.{Answer}
use Rattle.calls.specs.declared.call.Answer.TheVariants.{Done, Words, Refused}
use Rattle.calls.specs.declared.refusal.Refusal.{Refusal}
use Rattle.calls.specs.declared.refusal.Refusal.TheVariants.{RoomLength}
use Rattle.calls.specs.Answers.{accepted, require, answer_to, sample_answer, full}
use Rattle.calls.specs.Runs.{new, answer_after}
use Rattle.sounder.specs.States.{State, says, next, moved, took_if}
use Rattle.kinds.specs.declared.kind_name.KindName.{KindName}
use Rattle.kinds.specs.KindNames.{width}
use Rattle.layout.specs.Tests.{first_refusal}
use Rattle.files.specs.Order.{sounder_says, sample_test}
use Rattle.files.specs.Soundings.{sample_calls, record_calls}
use Rattle.files.specs.States.{led, Ready, Begun, Took}

-- an answer that refuses nothing is accepted
pub none_refused : (byte : ℕ) (r : Answer) → first_refusal (sounder_says byte r) ≡ None → accepted r ≡ true
none_refused byte Done h = refl
none_refused byte (Words a b) h = refl
none_refused byte (Refused e) h = let z : ◌≡◌ {A = ℕ} 0 1 = cc in absurd (omega arith)

-- a fact that holds anyhow
pub made_any : {X Y P : Type 0} (r : Result X Y) → P → IfOk r (λ _. P)
made_any (Ok x) p = p
made_any (Err y) p = tt

allowed : (b : Bool) (e : Refusal) → accepted (require b e Done) ≡ true → b ≡ true
allowed true e a = refl
allowed false e a = absurd (false≢true a)

module _ {S : Type 0} (k : KindModel S) where
  -- one more call behind a list
  pub led_append : (xs ys : List Call) (s : State S) → led k (xs ++ ys) s ≡ led k ys (led k xs s)
  led_append [] ys s = refl
  led_append (x ∷ xs) ys s = led_append xs ys (next k x s)

  sample_calls_append : (xs ys : List (ℤ × ℤ)) → sample_calls (xs ++ ys) ≡ sample_calls xs ++ sample_calls ys
  sample_calls_append [] ys = refl
  sample_calls_append (x ∷ xs) ys = ap {B = List Call} (λ r. Sample x.0 x.1 ∷ r) (sample_calls_append xs ys)

  -- one more sample of a list
  pub led_more : (xs : List (ℤ × ℤ)) (i : ℕ) (d : ℤ × ℤ) (s : State S) → i < length xs → led k (sample_calls (take (i + 1) xs)) s ≡ next k (Sample (get_or xs i d).0 (get_or xs i d).1) (led k (sample_calls (take i xs)) s)
  led_more xs i d s l =
      ap (λ ys. led k (sample_calls ys) s) (take_more xs i d l)
      ∙ ap (λ cs. led k cs s) (sample_calls_append (take i xs) (get_or xs i d ∷ []))
      ∙ led_append (sample_calls (take i xs)) (sample_calls (get_or xs i d ∷ [])) s

  -- what an accepted call makes of a state
  pub next_is : (call : Call) (s : State S) → accepted (says k call s) ≡ true → next k call s ≡ moved k call s
  next_is call s a = cond-true _ _ _ a

  module _ (s t : State S) (n i : ℕ) (R : Ready k n s) (T : Took i s t) where
    -- the sounder answers what it says of the sample alone
    pub sample_says : i < n → (a b : ℤ) → says k (Sample a b) t ≡ sample_answer k s.codes i (k.encoding.sample a b)
    sample_says l a b =
        (λ j. answer_to k (T.codes_stay j) (T.phase_stays j) (T.room_stays j) (T.counted j) t.sums (Sample a b))
        ∙ cond-true _ _ _ R.phase_takes
        ∙ cond-true _ _ _ (lt-ltb i (full k s.codes s.room) (let p = R.place in omega arith))

    taken : (o : Option S) → accepted (sample_answer k s.codes i o) ≡ true → Took (i + 1) s (took_if k o t)
    taken None a = absurd (false≢true a)
    taken (Some x) a = record { codes_stay = T.codes_stay; phase_stays = T.phase_stays; room_stays = T.room_stays; counted = ap (λ m. m + 1) T.counted }

    pub took_next : i < n → (a b : ℤ) → accepted (says k (Sample a b) t) ≡ true → Took (i + 1) s (next k (Sample a b) t)
    took_next l a b h = subst (Took (i + 1) s) (sym (next_is (Sample a b) t h)) (taken (k.encoding.sample a b) (ap accepted (sym (sample_says l a b)) ∙ h))

    -- the answer to a sample, as the test on it
    pub test_is : (kind : KindName) (from byte : ℕ) (x : ℤ × ℤ) (r : Answer) (a b : ℤ) → i < n → x ≡ (a, b) → byte ≡ from + width kind * i → r ≡ says k (Sample a b) t → first_refusal (sounder_says byte r) ≡ first_refusal (sample_test k s.codes kind from i x)
    test_is kind from byte x r a b l is e h =
        ap (λ (y : ℕ). first_refusal (sounder_says y r)) e
        ∙ ap (λ (y : Answer). first_refusal (sounder_says (from + width kind * i) y)) (h ∙ sample_says l a b)
        ∙ ap (λ (y : ℤ × ℤ). first_refusal (sample_test k s.codes kind from i y)) (sym is)

  -- the end of a record: turn after the first, close after the second
  turn_says : (t : State S) → t.phase ≡ FirstRecord → t.count ≡ full k t.codes t.room → says k Turn t ≡ Done
  turn_says t p n = (λ j. answer_to k t.codes (p j) t.room (n j) t.sums Turn) ∙ cond-true _ _ _ (eq-eqb (full k t.codes t.room) (full k t.codes t.room) refl)

  close_says : (t : State S) → t.phase ≡ SecondRecord → t.count ≡ full k t.codes t.room → says k Close t ≡ Done
  close_says t p n = (λ j. answer_to k t.codes (p j) t.room (n j) t.sums Close) ∙ cond-true _ _ _ (eq-eqb (full k t.codes t.room) (full k t.codes t.room) refl)

  -- a first record that was begun in s and is full in t
  module _ (n : ℕ) (s t : State S) (B : Begun k n s) (T : Took n s t) where
    same_full : n ≡ full k t.codes t.room
    same_full = B.full_at ∙ (λ j. full k (sym T.codes_stay j) (sym T.room_stays j))

    pub turns : says k Turn t ≡ Done
    turns = turn_says t (T.phase_stays ∙ B.phase_first) (T.counted ∙ same_full)

    turned : next k Turn t ≡ moved k Turn t
    turned = next_is Turn t (ap accepted turns)

    pub turned_codes : (next k Turn t).codes ≡ s.codes
    turned_codes = ap (λ (u : State S). u.codes) turned ∙ T.codes_stay

    pub closes : (u : State S) → Took n (next k Turn t) u → says k Close u ≡ Done
    closes u U =
        close_says u (U.phase_stays ∙ ap (λ (v : State S). v.phase) turned) (U.counted ∙ same_full ∙ (λ j. full k (sym (U.codes_stay ∙ ap (λ (v : State S). v.codes) turned) j) (sym (U.room_stays ∙ ap (λ (v : State S). v.room) turned) j)))

    module _ (u : State S) (U : Took n (next k Turn t) u) (v : State S) (e : v ≡ next k Close u) where
      closed : v ≡ moved k Close u
      closed = e ∙ next_is Close u (ap accepted (closes u U))

      pub closed_phase : v.phase ≡ Complete
      closed_phase = ap (λ (q : State S). q.phase) closed

      pub closed_room : v.room ≡ s.room
      closed_room = ap (λ (q : State S). q.room) closed ∙ U.room_stays ∙ ap (λ (q : State S). q.room) turned ∙ T.room_stays

  -- a sounder that is opened
  pub open_says : (s : State S) (c : Codes S) (n : ℕ) → s.phase ≡ Idle → says k (Open n) s ≡ answer_after k c new (Open n)
  open_says s c n p = λ j. answer_to k s.codes (p j) s.room s.count s.sums (Open n)

  module _ (s : State S) (n : ℕ) (p : s.phase ≡ Idle) (a : accepted (says k (Open n) s) ≡ true) where
    opened : next k (Open n) s ≡ moved k (Open n) s
    opened = next_is (Open n) s a

    pub room_bounds : (1 ≤ n) × (n ≤ 256)
    room_bounds =
        let b = allowed (leb 1 n && leb n 256) RoomLength (ap accepted (sym (open_says s s.codes n p)) ∙ a) in
        let c = and_parts (leb 1 n) (leb n 256) b in
        (leb-true 1 n c.0, leb-true n 256 c.1)

    pub opened_begun : Begun k (full k s.codes n) (next k (Open n) s)
    opened_begun = subst (Begun k (full k s.codes n)) (sym opened) (record { phase_first = refl; none_yet = refl; full_at = refl })

    pub opened_codes : (next k (Open n) s).codes ≡ s.codes
    opened_codes = ap (λ (q : State S). q.codes) opened

    pub opened_room : (next k (Open n) s).room ≡ n
    opened_room = ap (λ (q : State S). q.room) opened

  -- both records, call by call
  pub led_records : (xs ys : List (ℤ × ℤ)) (s : State S) → led k (record_calls xs ys) s ≡ next k Close (led k (sample_calls ys) (next k Turn (led k (sample_calls xs) s)))
  led_records xs ys s = led_append (sample_calls xs) (Turn ∷ (sample_calls ys ++ (Close ∷ []))) s ∙ led_append (sample_calls ys) (Close ∷ []) (next k Turn (led k (sample_calls xs) s))
