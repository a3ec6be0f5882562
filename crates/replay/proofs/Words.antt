-- The words of a text, as `split_ascii_whitespace` gives them.
use Rattle.std.proofs.Common.{◌≡◌, ℕ, ◌<◌, ◌≤◌, true, false, List, [], ◌∷◌, ◌++◌, length, get_or, refl, ap, ◌∙◌, subst, arith, ⊎_elim}
use Rattle.std.specs.List.{All, AllPass, filter, slice_split}
use Rattle.std.specs.Char.{is_ascii_whitespace}
use Rattle.std.specs.Str.{NoCharPasses}
use Rattle.std.specs.Str.Iter.{IsAsciiSeparator, split_ascii_whitespace_steps, split_ascii_whitespace_text}
use Rattle.std.proofs.lemmas.Bool.{cases_lt, cond-true, lt-ltb}
use Rattle.std.proofs.lemmas.Str.{NoCharPasses-byte}
use Rattle.std.proofs.lemmas.List.{append-nil}
use Rattle.std.proofs.lemmas.List.Splits.{slice_split-cons_yes, slice_split_at, slice_split_none}
use Rattle.std.proofs.lemmas.List.Elements.{All-from_get_or, All-head, All-tail}
use Rattle.std.proofs.lemmas.Iterator.{YieldsList}
use Rattle.std.proofs.lemmas.Iterator.Consumers.{YieldsList-from_shown}
use Rattle.replay.specs.Scripts.{has_bytes, words_of}

abbrev IsBlank : ℕ → Type 0
IsBlank b = is_ascii_whitespace b ≡ true

abbrev IsPlain : ℕ → Type 0
IsPlain b = is_ascii_whitespace b ≡ false

-- a blank in front is no word
behind_blank : (b : ℕ) (bs : List ℕ) → IsBlank b → words_of (b ∷ bs) ≡ words_of bs
behind_blank b bs blank = ap (filter has_bytes) (slice_split-cons_yes is_ascii_whitespace b bs blank)

behind_gap : (gap bs : List ℕ) → AllPass is_ascii_whitespace gap → words_of (gap ++ bs) ≡ words_of bs
behind_gap [] bs all = refl
behind_gap (b ∷ gap) bs all = behind_blank b (gap ++ bs) (All-head IsBlank b gap all) ∙ behind_gap gap bs (All-tail IsBlank b gap all)

-- blanks alone are no word
of_blanks : (bs : List ℕ) → AllPass is_ascii_whitespace bs → words_of bs ≡ []
of_blanks [] all = refl
of_blanks (b ∷ bs) all = behind_blank b bs (All-head IsBlank b bs all) ∙ of_blanks bs (All-tail IsBlank b bs all)

-- a part with a byte stays
kept : (x : List ℕ) (parts : List (List ℕ)) → 0 < length x → filter has_bytes (x ∷ parts) ≡ x ∷ filter has_bytes parts
kept x parts some = cond-true _ _ _ (lt-ltb 0 (length x) some)

-- a word, and what may follow it
behind_word : (x sep rest : List ℕ) → 0 < length x → All IsPlain x → IsAsciiSeparator sep rest → words_of (x ++ (sep ++ rest)) ≡ x ∷ words_of rest
behind_word x [] [] some plain ends = ap words_of (append-nil x) ∙ ap (filter has_bytes) (slice_split_none is_ascii_whitespace x plain) ∙ kept x [] some
behind_word x [] (b ∷ rest) some plain ends = let e = ends.2 refl in absurd (omega arith)
behind_word x (b ∷ []) rest some plain ends = ap (filter has_bytes) (slice_split_at is_ascii_whitespace x b rest plain (All-head IsBlank b [] ends.0)) ∙ kept x (slice_split is_ascii_whitespace rest) some
behind_word x (b ∷ c ∷ sep) rest some plain ends = let e = ends.1 in absurd (omega arith)

large : (b : ℕ) → 128 ≤ b → IsPlain b
large b le = grind arith

plain_word : (x : List ℕ) → NoCharPasses is_ascii_whitespace x → All IsPlain x
plain_word x none = All-from_get_or IsPlain x 0 (λ i l. ⊎_elim (λ lt. NoCharPasses-byte is_ascii_whitespace x i none l lt) (λ le. large (get_or x i 0) le) (cases_lt (get_or x i 0) 128))

pub words_from : {s : _} (bs : List ℕ) → split_ascii_whitespace_text s ≡ bs → YieldsList split_ascii_whitespace_steps (λ x. x.now) s (words_of bs)
words_from {s} bs e =
    subst (λ b. YieldsList split_ascii_whitespace_steps (λ x. x.now) s (words_of b)) e
    (YieldsList-from_shown split_ascii_whitespace_steps (λ x. x.now) (λ u. words_of (split_ascii_whitespace_text u))
    (λ u t h. ap length (of_blanks (split_ascii_whitespace_text u) h.0))
    (λ u x t h.
    ap words_of h.3.2 ∙ behind_gap h.3.0 _ h.3.3 ∙ behind_word x.now h.3.1 (split_ascii_whitespace_text t) h.0 (plain_word x.now h.1) h.3.4)
    s)
