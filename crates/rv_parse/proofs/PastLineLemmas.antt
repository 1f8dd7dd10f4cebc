-- The first byte past its line's limit, as the function finds it, is the first that is past it.

use Rattle.std.proofs.Common.{◌≡◌, ℕ, suc, ◌+◌, ◌≤◌, Bool, true, false, cond, ◌==◌, ◌&&◌, List, [], ◌∷◌, ◌++◌, append_assoc, length, length-append, Option, Some, None, refl, sym, ◌∙◌, ap, arith}
use Rattle.std.specs.List.{list_all}
use Rattle.std.proofs.lemmas.Bool.{eqb-true, and_parts}
use Rattle.std.proofs.lemmas.Bool.Decides.{nat_tests}
use Rattle.std.proofs.lemmas.Option.{same_Some}
use Rattle.rv_expression_laws.specs.Bytes.{in_line}
use Rattle.rv_parse_laws.specs.Reading.{longest_line, IsPastLine}
use Rattle.rv_parse.specs.Lines.{past_line}

feed : (b : ℕ) → in_line b ≡ true → (b == 10) ≡ false
feed b h = go (b == 10) h
  where
    go : (t : Bool) → cond t false true ≡ true → t ≡ false
    go true h = absurd (cc)
    go false h = refl

no_feed : (b : ℕ) → (b == 10) ≡ false → in_line b ≡ true
no_feed b h = rw h refl

all_more : (line : List ℕ) (b : ℕ) → list_all in_line line ≡ true → in_line b ≡ true → list_all in_line (line ++ b ∷ []) ≡ true
all_more [] b all is = rw is refl
all_more (c ∷ line) b all is = go (in_line c) all (all_more line b)
  where
    go : (t : Bool) → (t && list_all in_line line) ≡ true → (list_all in_line line ≡ true → in_line b ≡ true → list_all in_line (line ++ b ∷ []) ≡ true)
        → (t && list_all in_line (line ++ b ∷ [])) ≡ true
    go true all more = more all is
    go false all more = absurd (cc)

-- what is found, behind lines and the bytes of this line
abbrev Found_from : List ℕ → ℕ → List ℕ → Type 0
Found_from bytes p all =
    (front line : List ℕ) (place before : ℕ) → all ≡ front ++ (line ++ bytes) → place ≡ length front + length line → before ≡ length line
    → list_all in_line line ≡ true → past_line place before bytes ≡ Some p → IsPastLine all p

found_step : (b : ℕ) (bs : List ℕ) (p : ℕ) (all : List ℕ) → Found_from bs p all → Found_from (b ∷ bs) p all
found_step b bs p all further front line place before whole here count is e = go (b == 10) refl e
  where
    moved : all ≡ front ++ ((line ++ b ∷ []) ++ bs)
    moved = whole ∙ ap (λ us. front ++ us) (sym (append_assoc line (b ∷ []) bs))

    one : length (line ++ b ∷ []) ≡ length line + 1
    one = length-append line (b ∷ [])

    limited : (b == 10) ≡ false → (t : Bool) → (before == longest_line) ≡ t → cond t (Some place) (past_line (place + 1) (before + 1) bs) ≡ Some p → IsPastLine all p
    limited same true full e =
        let size : before ≡ longest_line = eqb-true before longest_line full in
        let at : place ≡ p = same_Some place p e in
        record {
          front = front;
          line = line;
          byte = b;
          more = bs;
          whole = whole;
          longest = sym count ∙ size;
          line_is = is;
          byte_is = no_feed b same;
          place_is = sym at ∙ here ∙ ap (λ n. length front + n) (sym count ∙ size);
        }
    limited same false less e = further front (line ++ b ∷ []) (place + 1) (before + 1) moved (omega (arith, here, one)) (omega (arith, count, one)) (all_more line b is (no_feed b same)) e

    go : (t : Bool) → (b == 10) ≡ t → cond t (past_line (place + 1) 0 bs) (cond (before == longest_line) (Some place) (past_line (place + 1) (before + 1) bs)) ≡ Some p → IsPastLine all p
    go true ends e =
        further (front ++ (line ++ b ∷ [])) [] (place + 1) 0 (moved ∙ sym (append_assoc front (line ++ b ∷ []) bs))
        (omega (arith, here, one, length-append front (line ++ b ∷ []))) refl refl e
    go false same e = limited same (before == longest_line) refl e

found_from : (bytes : List ℕ) (p : ℕ) (all : List ℕ) → Found_from bytes p all
found_from [] p all front line place before whole here count is e = absurd (cc)
found_from (b ∷ bs) p all front line place before whole here count is e = found_step b bs p all (found_from bs p all) front line place before whole here count is e

pub past_found : (bytes : List ℕ) (p : ℕ) → past_line 0 0 bytes ≡ Some p → IsPastLine bytes p
past_found bytes p e = found_from bytes p bytes [] [] 0 0 refl refl refl refl e

-- the function finds a place, and no later one
abbrev Finds : Option ℕ → ℕ → Type 0
Finds found high = (q : ℕ) × (found ≡ Some q) × (q ≤ high)

in_long : (line : List ℕ) (byte : ℕ) (more : List ℕ) (place before : ℕ) → list_all in_line line ≡ true → in_line byte ≡ true → longest_line ≤ before + length line → before ≤ longest_line
    → Finds (past_line place before (line ++ byte ∷ more)) (place + length line)
in_long [] byte more place before is inside long fits =
    let full : before ≡ longest_line = omega (arith, long, fits) in
    let test : (before == longest_line) ≡ true = ap (λ n. n == longest_line) full in
    (place, rw (feed byte inside, test) refl, omega arith)
in_long (b ∷ bs) byte more place before is inside long fits =
    let p = and_parts (in_line b) (list_all in_line bs) is in
    go (λ fewer. in_long bs byte more (place + 1) (before + 1) p.1 inside (omega (arith, long)) fewer) (before == longest_line) refl (feed b p.0)
  where
    go : (before + 1 ≤ longest_line → Finds (past_line (place + 1) (before + 1) (bs ++ byte ∷ more)) (place + 1 + length bs)) → (t : Bool) → (before == longest_line) ≡ t → (b == 10) ≡ false
        → Finds (past_line place before (b ∷ (bs ++ byte ∷ more))) (place + suc (length bs))
    go further true full no_line = (place, rw (no_line, full) refl, omega arith)
    go further false less no_line =
        let f = further (grind (arith, nat_tests, fits, less)) in
        (f.0, rw (no_line, less) f.1, omega (arith, f.2))

behind_lines : (front line : List ℕ) (byte : ℕ) (more : List ℕ) (place before : ℕ) → list_all in_line line ≡ true → in_line byte ≡ true → length line ≡ longest_line → before ≤ longest_line
    → Finds (past_line place before (front ++ (line ++ byte ∷ more))) (place + length front + longest_line)
behind_lines [] line byte more place before is inside long fits =
    let f = in_long line byte more place before is inside (omega (arith, long)) fits in
    (f.0, f.1, omega (arith, f.2, long))
behind_lines (b ∷ bs) line byte more place before is inside long fits =
    go (b == 10) refl (behind_lines bs line byte more (place + 1) 0 is inside long (omega arith)) (λ fewer. behind_lines bs line byte more (place + 1) (before + 1) is inside long fewer)
  where
    limited : (b == 10) ≡ false → (before + 1 ≤ longest_line → Finds (past_line (place + 1) (before + 1) (bs ++ (line ++ byte ∷ more))) (place + 1 + length bs + longest_line))
        → (t : Bool) → (before == longest_line) ≡ t → Finds (past_line place before (b ∷ (bs ++ (line ++ byte ∷ more)))) (place + suc (length bs) + longest_line)
    limited other further true full = (place, rw (other, full) refl, omega arith)
    limited other further false less =
        let f = further (grind (arith, nat_tests, fits, less)) in
        (f.0, rw (other, less) f.1, omega (arith, f.2))

    go : (t : Bool) → (b == 10) ≡ t → Finds (past_line (place + 1) 0 (bs ++ (line ++ byte ∷ more))) (place + 1 + length bs + longest_line)
        → (before + 1 ≤ longest_line → Finds (past_line (place + 1) (before + 1) (bs ++ (line ++ byte ∷ more))) (place + 1 + length bs + longest_line))
        → Finds (past_line place before (b ∷ (bs ++ (line ++ byte ∷ more)))) (place + suc (length bs) + longest_line)
    go true ends new further = (new.0, rw ends new.1, omega (arith, new.2))
    go false other new further = limited other further (before == longest_line) refl

past_finds : (bytes : List ℕ) (p : ℕ) → IsPastLine bytes p → Finds (past_line 0 0 bytes) p
past_finds bytes p x =
    let f = behind_lines x.front x.line x.byte x.more 0 0 x.line_is x.byte_is x.longest (omega arith) in
    let place = x.place_is in
    (f.0, ap (past_line 0 0) x.whole ∙ f.1, omega (arith, f.2, place))

pub past_least : (bytes : List ℕ) (p q : ℕ) → past_line 0 0 bytes ≡ Some p → IsPastLine bytes q → p ≤ q
past_least bytes p q e x =
    let f = past_finds bytes q x in
    let same : f.0 ≡ p = same_Some f.0 p (sym f.1 ∙ e) in
    omega (arith, f.2, same)

pub past_none : (bytes : List ℕ) → past_line 0 0 bytes ≡ None → (q : ℕ) → IsPastLine bytes q → ⊥
past_none bytes e q x = let f = past_finds bytes q x in let some = f.1 in cc
