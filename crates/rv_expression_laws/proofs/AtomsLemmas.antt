-- The finder of a string's atoms answers exactly what is spelled.

use Rattle.std.proofs.Common.{◌≡◌, ℕ, suc, ◌<◌, ◌≤◌, Bool, true, false, ◌&&◌, ◌||◌, not, cond, ◌==◌, nat_lt, List, [], ◌∷◌, ◌++◌, length, take, drop, refl, sym, ◌∙◌, ap, subst, arith, Option, Some, None, option_map, inl, inr}
use Rattle.std.proofs.lemmas.Bool.{and_parts, and_from, eqb-true, ltb-true}
use Rattle.std.proofs.lemmas.Bool.Decides.{nat_tests}
use Rattle.std.proofs.lemmas.Option.{same_Some, none-some}
use Rattle.std.proofs.lemmas.List.{length-take-le}
use Rattle.std.proofs.Math.Seq.{take-append_seam}
use Rattle.std.proofs.Math.Dec.{eqb-suc-zero}
use Rattle.std.specs.List.{list_all, prefix_len}
use Rattle.rv_list_laws.proofs.TruthLemmas.{or_three}
use Rattle.rv_expression_laws.specs.Cut.{Finds}
use Rattle.rv_expression_laws.specs.Bytes.{is_digit, digit}
use Rattle.rv_expression_laws.specs.Strings.{Atom, Plain, Named, Octal, Hexadecimal, SpellsAtom, StopsAtom, atom_goes_on, named, is_plain}
use Rattle.rv_expression_laws.specs.Front.{atom_at, escape_at}
use Rattle.rv_expression_laws.proofs.CutLemmas.{Answers, found_by}
use Rattle.rv_expression_laws.proofs.RunsLemmas.{pick, BreaksBelow, short_is, short_within, short_all, short_breaks}

-- one of three tests, the second
second_false : (x y z : Bool) → not (x || y || z) ≡ true → y ≡ false
second_false x false z h = refl
second_false true true z h = elim z [ true ↦ cc | false ↦ cc ]
second_false false true z h = elim z [ true ↦ cc | false ↦ cc ]

and_false : (x y : Bool) → x ≡ true → (x && y) ≡ false → y ≡ false
and_false true y h e = e
and_false false y h e = cc

and_false_from : (x y : Bool) → (x ≡ true → y ≡ false) → (x && y) ≡ false
and_false_from true y h = h refl
and_false_from false y h = refl

-- a letter after a backslash
letter_at : (e n m b : ℕ) (es : List ℕ) → e ≡ n → escape_at (n ∷ es) ≡ Some (Named m, 2) → m ≡ b → escape_at (e ∷ es) ≡ Some (Named b, 2)
letter_at e n m b es same at is = ap (λ x. escape_at (x ∷ es)) same ∙ at ∙ ap (λ x. Some (Named x, 2)) is

named_at : (e b : ℕ) (es : List ℕ) → named e ≡ Some b → escape_at (e ∷ es) ≡ Some (Named b, 2)
unfolding escape_at digit
named_at e b es =
    pick Good (e == 98) _ _ (λ t h. letter_at e 98 8 b es (eqb-true e 98 t) refl (same_Some 8 b h)) (λ _.
    pick Good (e == 102) _ _ (λ t h. letter_at e 102 12 b es (eqb-true e 102 t) refl (same_Some 12 b h)) (λ _.
    pick Good (e == 110) _ _ (λ t h. letter_at e 110 10 b es (eqb-true e 110 t) refl (same_Some 10 b h)) (λ _.
    pick Good (e == 114) _ _ (λ t h. letter_at e 114 13 b es (eqb-true e 114 t) refl (same_Some 13 b h)) (λ _.
    pick Good (e == 116) _ _ (λ t h. letter_at e 116 9 b es (eqb-true e 116 t) refl (same_Some 9 b h)) (λ _.
    pick Good ((e == 92) || (e == 34) || (e == 39)) _ _
    (λ t h. elim (or_three (e == 92) (e == 34) (e == 39) t) [
      | inl x ↦ itself 92 (eqb-true e 92 x) refl (same_Some e b h)
      | inr y ↦ elim y [ inl x ↦ itself 34 (eqb-true e 34 x) refl (same_Some e b h) | inr x ↦ itself 39 (eqb-true e 39 x) refl (same_Some e b h) ]
    ])
    (λ _ h. absurd (none-some b h)))))))
  where
    Good : Option ℕ → Type 0
    Good o = o ≡ Some b → escape_at (e ∷ es) ≡ Some (Named b, 2)

    itself : (n : ℕ) → e ≡ n → escape_at (n ∷ es) ≡ Some (Named n, 2) → e ≡ b → escape_at (e ∷ es) ≡ Some (Named b, 2)
    itself n same at is = letter_at e n n b es same at (sym same ∙ is)

octal_at : (d : ℕ) (ds rest : List ℕ) → is_digit 8 d ≡ true → prefix_len (is_digit 8) (take 2 (ds ++ rest)) ≡ length ds
    → escape_at (d ∷ (ds ++ rest)) ≡ Some (Octal (d ∷ ds), suc (suc (length ds)))
unfolding escape_at
octal_at d ds rest h n = rw (h, n, take-append_seam) refl

hexadecimal_at : (d : ℕ) (ds rest : List ℕ) → prefix_len (is_digit 16) (take 2 (d ∷ (ds ++ rest))) ≡ suc (length ds)
    → escape_at (120 ∷ d ∷ (ds ++ rest)) ≡ Some (Hexadecimal (d ∷ ds), suc (suc (suc (length ds))))
unfolding escape_at digit
hexadecimal_at d ds rest n = found (prefix_len (is_digit 16) (take 2 (d ∷ (ds ++ rest)))) n
  where
    found : (m : ℕ) → m ≡ suc (length ds)
        → cond {A = Option (Atom × ℕ)} (m == 0) None (Some (Hexadecimal (take m (d ∷ (ds ++ rest))), suc (suc m))) ≡ Some (Hexadecimal (d ∷ ds), suc (suc (suc (length ds))))
    found m e = rw (e, eqb-suc-zero, take-append_seam) refl

octal_breaks : (d : ℕ) (ds rest : List ℕ) → StopsAtom (Octal (d ∷ ds)) rest → BreaksBelow 2 (is_digit 8) (length ds) rest
octal_breaks d ds [] s = tt
octal_breaks d ds (b ∷ bs) s = λ lt. and_false (nat_lt (suc (length ds)) 3) (is_digit 8 b) (grind (arith, nat_tests)) s

hexadecimal_breaks : (ds rest : List ℕ) → StopsAtom (Hexadecimal ds) rest → BreaksBelow 2 (is_digit 16) (length ds) rest
hexadecimal_breaks ds [] s = tt
hexadecimal_breaks ds (b ∷ bs) s = λ lt. and_false (nat_lt (length ds) 2) (is_digit 16 b) (grind (arith, nat_tests)) s

pub atom_is : (a : Atom) (text rest : List ℕ) → SpellsAtom a text → StopsAtom a rest → atom_at (text ++ rest) ≡ Some (a, length text)
unfolding atom_at
atom_is (Plain byte) text rest (whole, plain) stops =
    ap (λ t. atom_at (t ++ rest)) whole
    ∙ rw (plain, second_false (byte == 34) (byte == 92) (byte == 10) plain) (ap (λ t. Some (Plain byte, length t)) (sym whole))
atom_is (Named byte) text rest (e, whole, is) stops =
    ap (λ t. atom_at (t ++ rest)) whole ∙ named_at e byte rest is ∙ ap (λ t. Some (Named byte, length t)) (sym whole)
atom_is (Octal []) text rest (whole, all, some, most) stops = absurd (omega arith)
atom_is (Octal (d ∷ ds)) text rest (whole, all, some, most) stops =
    let h = and_parts (is_digit 8 d) (list_all (is_digit 8) ds) all in
    ap (λ t. atom_at (t ++ rest)) whole
    ∙ octal_at d ds rest h.0 (short_is (is_digit 8) 2 ds rest h.1 (omega arith) (octal_breaks d ds rest stops))
    ∙ ap (λ t. Some (Octal (d ∷ ds), length t)) (sym whole)
atom_is (Hexadecimal []) text rest (whole, all, some, most) stops = absurd (omega arith)
atom_is (Hexadecimal (d ∷ ds)) text rest (whole, all, some, most) stops =
    ap (λ t. atom_at (t ++ rest)) whole
    ∙ hexadecimal_at d ds rest (short_is (is_digit 16) 2 (d ∷ ds) rest all most (hexadecimal_breaks (d ∷ ds) rest stops))
    ∙ ap (λ t. Some (Hexadecimal (d ∷ ds), length t)) (sym whole)

pub atom_some : (a : Atom) (text : List ℕ) → SpellsAtom a text → 0 < length text
atom_some (Plain byte) text (whole, plain) = rw whole (omega arith)
atom_some (Named byte) text (e, whole, is) = rw whole (omega arith)
atom_some (Octal digits) text (whole, all, some, most) = rw whole (omega arith)
atom_some (Hexadecimal digits) text (whole, all, some, most) = rw whole (omega arith)

-- where nothing goes on
stops_at_once : (a : Atom) → ((b : ℕ) → atom_goes_on a b ≡ false) → (rest : List ℕ) → StopsAtom a rest
stops_at_once a never [] = tt
stops_at_once a never (b ∷ bs) = never b

octal_stops : (d n : ℕ) (ds rest : List ℕ) → length ds ≡ n → BreaksBelow 2 (is_digit 8) n rest → StopsAtom (Octal (d ∷ ds)) rest
octal_stops d n ds [] len s = tt
octal_stops d n ds (b ∷ bs) len s = and_false_from (nat_lt (suc (length ds)) 3) (is_digit 8 b) (λ t. s (let lt : suc (length ds) < 3 = ltb-true (suc (length ds)) 3 t in omega arith))

hexadecimal_stops : (n : ℕ) (ds rest : List ℕ) → length ds ≡ n → BreaksBelow 2 (is_digit 16) n rest → StopsAtom (Hexadecimal ds) rest
hexadecimal_stops n ds [] len s = tt
hexadecimal_stops n ds (b ∷ bs) len s = and_false_from (nat_lt (length ds) 2) (is_digit 16 b) (λ t. s (let lt : length ds < 2 = ltb-true (length ds) 2 t in omega arith))

-- what an answer says of the bytes
abbrev AtomAnswers : List ℕ → Option (Atom × ℕ) → Type 0
AtomAnswers all o = Answers Atom ℕ SpellsAtom StopsAtom all o

octal_answers : (e n : ℕ) (es : List ℕ) → is_digit 8 e ≡ true → prefix_len (is_digit 8) (take 2 es) ≡ n → AtomAnswers (92 ∷ e ∷ es) (Some (Octal (e ∷ take n es), suc (suc n)))
octal_answers e n es h is =
    let w = short_within (is_digit 8) 2 es in
    let within : n ≤ length es = omega (arith, w.0) in
    let most : n ≤ 2 = omega (arith, w.1) in
    let len : length (take n es) ≡ n = length-take-le n es within in
    let all : list_all (is_digit 8) (take n es) ≡ true = subst (λ m. list_all (is_digit 8) (take m es) ≡ true) is (short_all (is_digit 8) 2 es) in
    record {
      within = omega arith;
      spelled = (refl, and_from (is_digit 8 e) (list_all (is_digit 8) (take n es)) h all, omega arith, omega arith);
      stops = octal_stops e n (take n es) (drop n es) len (subst (λ m. BreaksBelow 2 (is_digit 8) m (drop m es)) is (short_breaks (is_digit 8) 2 es));
    }

hexadecimal_answers : (e n : ℕ) (es : List ℕ) → e ≡ 120 → prefix_len (is_digit 16) (take 2 es) ≡ n → AtomAnswers (92 ∷ e ∷ es) (cond {A = Option (Atom × ℕ)} (n == 0) None (Some (Hexadecimal (take n es), suc (suc n))))
hexadecimal_answers e n es h is = pick (AtomAnswers (92 ∷ e ∷ es)) (n == 0) None (Some (Hexadecimal (take n es), suc (suc n))) (λ _. tt) (λ t.
    let w = short_within (is_digit 16) 2 es in
    let within : n ≤ length es = omega (arith, w.0) in
    let most : n ≤ 2 = omega (arith, w.1) in
    let some : 0 < n = grind (arith, nat_tests) in
    let len : length (take n es) ≡ n = length-take-le n es within in
    let all : list_all (is_digit 16) (take n es) ≡ true = subst (λ m. list_all (is_digit 16) (take m es) ≡ true) is (short_all (is_digit 16) 2 es) in
    record {
      within = omega arith;
      spelled = (ap (λ x. 92 ∷ x ∷ take n es) h, all, omega arith, omega arith);
      stops = hexadecimal_stops n (take n es) (drop n es) len (subst (λ m. BreaksBelow 2 (is_digit 16) m (drop m es)) is (short_breaks (is_digit 16) 2 es));
    })

named_answers : (e : ℕ) (es : List ℕ) (o : Option ℕ) → named e ≡ o → AtomAnswers (92 ∷ e ∷ es) (option_map (λ b. (Named b, 2)) o)
named_answers e es None h = tt
named_answers e es (Some b) h = record { within = omega arith; spelled = (e, refl, h); stops = stops_at_once (Named b) (λ c. refl) es }

escape_answers : (bs : List ℕ) → AtomAnswers (92 ∷ bs) (escape_at bs)
unfolding escape_at
escape_answers [] = tt
escape_answers (e ∷ es) =
    pick (AtomAnswers (92 ∷ e ∷ es)) (is_digit 8 e) _ _ (λ h. octal_answers e _ es h refl) (λ _.
    pick (AtomAnswers (92 ∷ e ∷ es)) (e == 120) _ _ (λ h. hexadecimal_answers e _ es (eqb-true e 120 h) refl) (λ _.
    named_answers e es (named e) refl))

pub atom_answers : (all : List ℕ) → AtomAnswers all (atom_at all)
unfolding atom_at
atom_answers [] = tt
atom_answers (b ∷ bs) =
    pick (AtomAnswers (b ∷ bs)) (b == 92) _ _ (λ h. subst (λ x. AtomAnswers (x ∷ bs) (escape_at bs)) (sym (eqb-true b 92 h)) (escape_answers bs)) (λ _.
    pick (AtomAnswers (b ∷ bs)) (is_plain b) _ _ (λ h. record { within = omega arith; spelled = (refl, h); stops = stops_at_once (Plain b) (λ c. refl) bs }) (λ _. tt))

-- each text is cut into atoms in one way
pub atoms : Finds Atom ℕ SpellsAtom StopsAtom atom_at
atoms = record { is = atom_is; found = found_by Atom ℕ SpellsAtom StopsAtom atom_at atom_answers; some = atom_some }
