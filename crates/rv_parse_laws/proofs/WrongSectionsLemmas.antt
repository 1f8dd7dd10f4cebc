-- The name of a section is wrong at the token, and with the code, that specs/Wrong says.

use Rattle.std.proofs.Common.{◌≡◌, ℕ, ◌+◌, ◌<◌, ◌≤◌, Bool, true, false, cond, ◌&&◌, not, nat_le, nat_lt, List, [], ◌∷◌, ◌++◌, Option, Some, None, Ok, Err, refl, sym, ◌∙◌, ap, inl, inr, length, length-append, codes, arith}
use Rattle.std.specs.Str.{bytes_eq}
use Rattle.std.proofs.lemmas.Bool.Decides.{nat_tests}
use Rattle.std.proofs.lemmas.Slice.Eq.{bytes_eq-Decides}
use Rattle.rv_expression_laws.specs.Grammar.{Name}
use Rattle.rv_expression_laws.specs.Lexing.{Token, is_ended}
use Rattle.rv_expression_laws.specs.Codes.{unsupported_here, limit}
use Rattle.rv_expression_laws.specs.SyntaxError.{SyntaxError, wrong, Read, longest_name}
use Rattle.rv_expression_laws.specs.Joined.{joined_bytes, AreAfter, IsJoined, joined_after, first_name, joined_at}
use Rattle.rv_expression_laws.proofs.JoinsLemmas.{joined_is as joined_name_is, joined_found as joined_name_found, parts_join, joined_none, first_is}
use Rattle.rv_parse_laws.specs.Syntax.{is_section_name, A_section}
use Rattle.rv_statement_laws.specs.Statement.{Word}
use Rattle.rv_parse_laws.specs.Content.{left_out, content_fault}
use Rattle.rv_parse_laws.specs.Faults.{wrong_first}
use Rattle.rv_parse_laws.specs.Wrong.{IsLongName, IsWrongSection, Passes}
use Rattle.rv_parse_laws.specs.Parsing.{too_long, wrong_front, named_or, section_name_at}
use Rattle.rv_parse_laws.proofs.FailingLemmas.{never, wrongs}
use Rattle.rv_parse_laws.proofs.SectionsLemmas.{name_at, section_by, too_long_step, too_long_within, length_behind, long_at, long_err, over_test}
use Rattle.rv_parse_laws.proofs.WrongsLemmas.{SaidBy, left_out_is}

within_test : (n : ℕ) → n ≤ longest_name → nat_lt longest_name n ≡ false
within_test n fits = grind (arith, nat_tests, fits)

-- the token with which a name becomes too long
long_after : (n place : ℕ) (front : List Token) (t : Token) (more : List Token) (bytes longer : List ℕ) → AreAfter place front bytes → n + length bytes ≤ longest_name
    → AreAfter place (front ++ t ∷ []) longer → longest_name < n + length longer
    → (too_long n (front ++ t ∷ more) ≡ wrong t limit) × (longest_name < n + length (joined_after place (front ++ t ∷ more)).0)
long_after n place [] t more bytes longer is fits (here, first, rest, b, w, none) past =
    let sizes : length longer ≡ length (first ++ rest) = ap (λ (x : List ℕ). length x) w in
    let zero : length rest ≡ 0 = ap (λ (x : List ℕ). length x) none in
    let lt : longest_name < n + length first = omega (arith, past, sizes, zero, length-append first rest) in (
      too_long_step n t more first b ∙ rw (over_test (n + length first) lt) refl,
      omega (arith, lt, length_behind place t more first (parts_join place t first here b)),
    )
long_after n place (u ∷ us) t more bytes longer (here, first, rest, b, w, after) fits (here', first', rest', b', w', after') past =
    let same : first ≡ first' = cc (sym b ∙ b') in
    let sizes : length bytes ≡ length (first ++ rest) = ap (λ (x : List ℕ). length x) w in
    let sizes' : length longer ≡ length (first' ++ rest') = ap (λ (x : List ℕ). length x) w' in
    let one : length first ≡ length first' = ap (λ (x : List ℕ). length x) same in
    let within : n + length first ≤ longest_name = omega (arith, fits, sizes, length-append first rest) in
    let h = long_after (n + length first) u.stop us t more rest rest' after (omega (arith, fits, sizes, length-append first rest)) after'
    (omega (arith, past, sizes', one, length-append first' rest')) in (
      too_long_within n u (us ++ t ∷ more) first (wrong t limit) b (within_test (n + length first) within) h.0,
      omega (arith, h.1, length_behind place u (us ++ t ∷ more) first (parts_join place u first here b)),
    )

long_is : (ts : List Token) (t : Token) → IsLongName ts t → section_name_at ts ≡ Err (wrong t limit)
long_is ts t ([], more, name, longer, w, start, fits, (first, rest, is, v, none), past) =
    let sizes : length longer ≡ length (first ++ rest) = ap (λ (x : List ℕ). length x) v in
    let zero : length rest ≡ 0 = ap (λ (x : List ℕ). length x) none in
    let lt : longest_name < 0 + length first = omega (arith, past, sizes, zero, length-append first rest) in
    let over : longest_name < length (first ++ (joined_after t.stop more).0) = omega (arith, lt, length-append first (joined_after t.stop more).0) in
    ap section_name_at w ∙ long_err t more first (joined_after t.stop more).0 (joined_after t.stop more).1 (wrong t limit) is refl over
    (too_long_step 0 t more first (ap joined_bytes is) ∙ rw (over_test (0 + length first) lt) refl)
long_is ts t (u ∷ us, more, name, longer, w, inl none, fits, joined, past) = absurd (cc none)
long_is ts t (u ∷ us, more, name, longer, w, inr (first, rest, is, v, after), fits, (first', rest', is', v', after'), past) =
    let kinds : Name first ≡ Name first' = sym is ∙ is' in
    let same : first ≡ first' = cc in
    let sizes : length name ≡ length (first ++ rest) = ap (λ (x : List ℕ). length x) v in
    let sizes' : length longer ≡ length (first' ++ rest') = ap (λ (x : List ℕ). length x) v' in
    let one : length first ≡ length first' = ap (λ (x : List ℕ). length x) same in
    let within : 0 + length first ≤ longest_name = omega (arith, fits, sizes, length-append first rest) in
    let h = long_after (0 + length first) u.stop us t more rest rest' after (omega (arith, fits, sizes, length-append first rest)) after'
    (omega (arith, past, sizes', one, length-append first' rest')) in
    let over : longest_name < length (first ++ (joined_after u.stop (us ++ t ∷ more)).0) = omega (arith, h.1, length-append first (joined_after u.stop (us ++ t ∷ more)).0) in
    ap section_name_at w ∙ long_err u (us ++ t ∷ more) first (joined_after u.stop (us ++ t ∷ more)).0 (joined_after u.stop (us ++ t ∷ more)).1 (wrong t limit) is refl over
    (too_long_within 0 u (us ++ t ∷ more) first (wrong t limit) (ap joined_bytes is) (within_test (0 + length first) within) h.0)

-- the name of the rows is refused
rows_content : (name : List ℕ) (code : ℕ) → content_fault true A_section (Word name) ≡ Some code
    → (is_section_name name ≡ false) × (nat_lt longest_name (length name) ≡ false) × (code ≡ unsupported_here)
unfolding is_section_name
rows_content name code h =
    let r = left_out_is (bytes_eq name (codes ".rv.rows")) code h in
    let same : name ≡ codes ".rv.rows" = (bytes_eq-Decides name (codes ".rv.rows")).0 r.0 in
    (rw same refl, rw same refl, r.1)

content_rows : (name : List ℕ) → is_section_name name ≡ false → length name ≤ longest_name → content_fault true A_section (Word name) ≡ Some unsupported_here
unfolding is_section_name
content_rows name bad fits = go (bytes_eq name (codes ".rv.rows")) bad
  where
    fit : nat_le (length name) longest_name ≡ true
    fit = grind (arith, nat_tests, fits)

    go : (b : Bool) → (nat_le (length name) longest_name && not b) ≡ false → left_out b ≡ Some unsupported_here
    go true h = refl
    go false h = absurd (let no : (true && true) ≡ false = sym (ap (λ c. c && true) fit) ∙ h in cc)

pub section_wrongs : (ts : List Token) (t : Token) (code : ℕ) → IsWrongSection ts t code → section_name_at ts ≡ Err (wrong t code)
section_wrongs ts t code (inl (us, w, none, is)) = ap section_name_at w ∙ ap (named_or (t ∷ us)) (joined_none t us none) ∙ ap (λ n. Err (wrong t n)) (sym is)
section_wrongs ts t code (inr (inl (long, is))) = long_is ts t long ∙ ap (λ n. Err (wrong t n)) (sym is)
section_wrongs ts t code (inr (inr (us, name, rest, w, reads, bad))) =
    let r = rows_content name code bad in
    ap (named_or ts) (joined_name_is ts name rest reads) ∙ ap (λ xs. named_or xs (Some (name, rest))) w ∙ rw (r.0, r.1, r.2) refl

pub section_passed : (one rest : List Token) (name : List ℕ) → IsJoined one name → is_section_name name ≡ true
    → ((t : Token) (us : List Token) (longer : List ℕ) → rest ≡ t ∷ us → IsJoined (one ++ t ∷ []) longer → ⊥) → section_name_at (one ++ rest) ≡ Ok (name, rest)
section_passed one rest name joined good longest =
    ap (named_or (one ++ rest)) (joined_name_is (one ++ rest) name rest (record { tokens = one; whole = refl; joined = joined; longest = longest })) ∙ by_cases (one ++ rest)
  where
    by_cases : (ts : List Token) → named_or ts (Some (name, rest)) ≡ Ok (name, rest)
    by_cases [] = rw good refl
    by_cases (t ∷ ts) = rw good refl

pub section_said : (ts : List Token) (w : SyntaxError) → section_name_at ts ≡ Err w → is_ended ts ≡ true → SaidBy IsWrongSection ts w
section_said [] w e end = absurd (cc)
section_said (t ∷ ts) w e end = go (first_name t.kind) refl
  where
    later : List ℕ
    later = (joined_after t.stop ts).0

    rest : List Token
    rest = (joined_after t.stop ts).1

    long : (first : List ℕ) → t.kind ≡ Name first → longest_name < length (first ++ (joined_after t.stop ts).0) → (b : Bool) → nat_lt longest_name (0 + length first) ≡ b → too_long 0 (t ∷ ts) ≡ w
        → SaidBy IsWrongSection (t ∷ ts) w
    long first is over true past same =
        let lt : longest_name < length (first ++ []) = grind (arith, nat_tests, past, length-append first []) in
        (t, limit, inr (inl (([], ts, [], first ++ [], refl, inl refl, omega arith, (first, [], is, refl, refl), lt), refl)), sym same ∙ too_long_step 0 t ts first (ap joined_bytes is) ∙ rw past refl)
    long first is over false past same =
        let le : 0 + length first ≤ longest_name = grind (arith, nat_tests, past) in
        let f = long_at (0 + length first) t.stop ts le (omega (arith, over, length-append first (joined_after t.stop ts).0)) in
        let all : t ∷ ts ≡ (t ∷ f.front) ++ f.at ∷ f.more = ap (λ us. t ∷ us) f.whole in
        let fits : length (first ++ f.bytes) ≤ longest_name = omega (arith, f.fits, length-append first f.bytes) in
        let lt : longest_name < length (first ++ f.longer) = omega (arith, f.past, length-append first f.longer) in
        let is_long : IsLongName (t ∷ ts) f.at =
        (t ∷ f.front, f.more, first ++ f.bytes, first ++ f.longer, all, inr (first, f.bytes, is, refl, f.is), fits, (first, f.longer, is, refl, f.longer_is), lt) in (
          f.at,
          limit,
          inr (inl (is_long, refl)),
          sym same ∙ ap (λ us. too_long 0 (t ∷ us)) f.whole
              ∙ too_long_within 0 t (f.front ++ f.at ∷ f.more) first (wrong f.at limit) (ap joined_bytes is) past (f.says f.more).0,
        )

    read : (first : List ℕ) → t.kind ≡ Name first → section_name_at (t ∷ ts) ≡ cond (is_section_name (first ++ (joined_after t.stop ts).0)) (Ok (first ++ (joined_after t.stop ts).0, (joined_after t.stop ts).1))
        (cond (nat_lt longest_name (length (first ++ (joined_after t.stop ts).0))) (Err (too_long 0 (t ∷ ts))) (Err (wrong t unsupported_here)))
    read first is = section_by t ts first (joined_after t.stop ts).0 (joined_after t.stop ts).1 is refl

    refused : (first : List ℕ) → t.kind ≡ Name first → is_section_name (first ++ (joined_after t.stop ts).0) ≡ false → (b : Bool) → nat_lt longest_name (length (first ++ (joined_after t.stop ts).0)) ≡ b
        → cond {A = Read (List ℕ)} b (Err (too_long 0 (t ∷ ts))) (Err (wrong t unsupported_here)) ≡ Err w → SaidBy IsWrongSection (t ∷ ts) w
    refused first is bad true over h = long first is (grind (arith, nat_tests, over)) (nat_lt longest_name (0 + length first)) refl (wrongs _ w h)
    refused first is bad false over h =
        let le : length (first ++ (joined_after t.stop ts).0) ≤ longest_name = grind (arith, nat_tests, over) in (
          t,
          unsupported_here,
          inr (inr (
            ts,
            first ++ (joined_after t.stop ts).0,
            (joined_after t.stop ts).1,
            refl,
            joined_name_found (t ∷ ts) (first ++ (joined_after t.stop ts).0) (joined_after t.stop ts).1 (name_at t ts first is),
            content_rows (first ++ (joined_after t.stop ts).0) bad le,
          )),
          sym (wrongs _ w h),
        )

    named : (first : List ℕ) → t.kind ≡ Name first → (b : Bool) → is_section_name (first ++ (joined_after t.stop ts).0) ≡ b → SaidBy IsWrongSection (t ∷ ts) w
    named first is true good = absurd (never (first ++ (joined_after t.stop ts).0, (joined_after t.stop ts).1) w (sym (read first is ∙ rw good refl) ∙ e))
    named first is false bad =
        refused first is bad (nat_lt longest_name (length (first ++ (joined_after t.stop ts).0))) refl (sym (read first is ∙ rw bad refl) ∙ e)

    go : (o : Option (List ℕ)) → first_name t.kind ≡ o → SaidBy IsWrongSection (t ∷ ts) w
    go None none =
        let same : wrong t (wrong_first A_section t.kind) ≡ w = wrongs _ w (sym (ap (named_or (t ∷ ts)) (joined_none t ts none)) ∙ e) in
        (t, wrong_first A_section t.kind, inl (ts, refl, none, refl), sym same)
    go (Some first) is = named first (first_is t.kind first is) (is_section_name (first ++ (joined_after t.stop ts).0)) refl

-- a name that is read ends there
pub section_ends : (ts : List Token) (name : List ℕ) (rest : List Token) → section_name_at ts ≡ Ok (name, rest) → (one : List Token) × (ts ≡ one ++ rest) × Passes A_section one rest
section_ends ts name rest e = go (joined_at ts) refl e
  where
    found : (read : List ℕ × List Token) → joined_at ts ≡ Some read → (b : Bool) → is_section_name read.0 ≡ b
        → cond {A = Read (List ℕ)} b (Ok read) (cond (nat_lt longest_name (length read.0)) (Err (too_long 0 ts)) (Err (wrong_front ts unsupported_here))) ≡ Ok (name, rest)
        → (one : List Token) × (ts ≡ one ++ rest) × Passes A_section one rest
    found read is true good h =
        let same : read ≡ (name, rest) = cc in
        let r = joined_name_found ts name rest (is ∙ ap (λ (x : List ℕ × List Token). Some x) same) in
        (r.tokens, r.whole, (name, r.joined, sym (ap (λ (x : List ℕ × List Token). is_section_name x.0) same) ∙ good, r.longest))
    found read is false bad h = absurd (other (nat_lt longest_name (length read.0)) h)
      where
        other : (c : Bool) → cond {A = Read (List ℕ)} c (Err (too_long 0 ts)) (Err (wrong_front ts unsupported_here)) ≡ Ok (name, rest) → ⊥
        other true h = cc
        other false h = cc

    none : (ts : List Token) → named_or ts None ≡ Ok (name, rest) → ⊥
    none [] h = cc
    none (t ∷ ts) h = cc

    some : (us : List Token) (read : List ℕ × List Token) → named_or us (Some read)
        ≡ cond {A = Read (List ℕ)} (is_section_name read.0) (Ok read) (cond (nat_lt longest_name (length read.0)) (Err (too_long 0 us)) (Err (wrong_front us unsupported_here)))
    some [] read = refl
    some (t ∷ us) read = refl

    go : (o : Option (List ℕ × List Token)) → joined_at ts ≡ o → named_or ts o ≡ Ok (name, rest) → (one : List Token) × (ts ≡ one ++ rest) × Passes A_section one rest
    go None is h = absurd (none ts h)
    go (Some read) is h = found read is (is_section_name read.0) refl (sym (some ts read) ∙ h)
