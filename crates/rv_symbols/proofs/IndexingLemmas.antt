-- The indices of symbols.

use Rattle.std.proofs.Common.{◌≡◌, ℕ, suc, ◌+◌, ◌^◌, ◌<◌, ◌≤◌, Bool, true, false, cond, List, [], ◌∷◌, ◌++◌, length, map, take, get_or, refl, sym, ap, ◌∙◌, subst, arith, Option, Some, None}
use Rattle.std.specs.Prelude.{◌&&◌, ◌==◌, not, nat_lt, option_map, unwrap_or, position, if◌then◌else◌}
use Rattle.std.specs.Borrow.{Bor}
use Rattle.std.specs.List.{position_or_len}
use Rattle.std.specs.Str.{bytes_eq}
use Rattle.std.proofs.lemmas.Bool.{eqb-true, and_right, and_left}
use Rattle.std.proofs.lemmas.List.{take_more, map-append, length-map, length-take-le}
use Rattle.rv_statement.specs.View.{now_of}
use Rattle.rv_object_laws.specs.declared.symbol.Definition.{Definition as Defined}
use Rattle.rv_object_laws.specs.declared.symbol.Definition.TheVariants.{Undefined, Absolute, InSection, Skipped}
use Rattle.rv_object_types.specs.declared.symbol.Symbol.{Symbol as DeclaredSymbol}
use Rattle.rv_object_laws.specs.Object.{Symbol}
use Rattle.rv_object_types.specs.Parts.{symbol_of}
use Rattle.rv_assemble_laws.specs.LaidStatements.{LaidStatement}
use Rattle.rv_symbols.specs.Source.{place_in}
use Rattle.rv_symbols.specs.Numbers.{last_from, last_index, is_at_place, place_number}
use Rattle.rv_assemble_laws.specs.Symbols.{is_named, stands_in}
use Rattle.rv_symbols.specs.Found.{same_place}

last_end : (i : ℕ) (test : Symbol → Bool) (xs : List Symbol) (x : Symbol) (found : Option ℕ) (n : ℕ) → n ≡ i + length xs → last_from i test (xs ++ x ∷ []) found ≡ (if test x then Some n else last_from i test xs found)
last_end i test [] x found n e = ap (λ k. if test x then Some k else found) (let f : i ≡ n = omega arith in f)
last_end i test (y ∷ ys) x found n e = last_end (suc i) test ys x (if test y then Some i else found) n (omega arith)

pub last_more : (test : Symbol → Bool) (xs : List Symbol) (x : Symbol) → last_index test (xs ++ x ∷ []) ≡ (if test x then Some (length xs) else last_index test xs)
last_more test xs x = last_end 0 test xs x None (length xs) (omega arith)

pub name_more : (xs : List Symbol) (x : Symbol) (q name : List ℕ) (next : ℕ) (old new : Option ℕ) → name ≡ x.name → next ≡ length xs → new ≡ cond (bytes_eq name q) (Some next) old → old ≡ last_index (is_named q) xs
    → new ≡ last_index (is_named q) (xs ++ x ∷ [])
name_more xs x q name next old new is at now before =
    now ∙ ap (λ n. cond (bytes_eq n q) (Some next) old) is ∙ ap (λ n. cond (bytes_eq x.name q) (Some n) old) at ∙ ap (λ o. cond (bytes_eq x.name q) (Some (length xs)) o) before
    ∙ sym (last_more (is_named q) xs x)

pub no_place : (xs : List Symbol) (x : Symbol) (q : ℕ × ℕ) (old : Option ℕ) → is_at_place q.0 q.1 x ≡ false → old ≡ last_index (is_at_place q.0 q.1) xs → old ≡ last_index (is_at_place q.0 q.1) (xs ++ x ∷ [])
no_place xs x q old e h = h ∙ sym (last_more (is_at_place q.0 q.1) xs x ∙ ap (λ b. if b then Some (length xs) else last_index (is_at_place q.0 q.1) xs) e)

-- a symbol with a name stands at no place
some_name : (n : List ℕ) → (length n == 0) ≡ false → bytes_eq n [] ≡ false
some_name [] e = absurd (cc)
some_name (b ∷ bs) e = refl

no_name : (n : List ℕ) → (length n == 0) ≡ true → bytes_eq n [] ≡ true
no_name [] e = refl
no_name (b ∷ bs) e = absurd (let f : suc (length bs) ≡ 0 = eqb-true (suc (length bs)) 0 e in omega arith)

pub named_nowhere : (x : Symbol) (q : ℕ × ℕ) → (length x.name == 0) ≡ false → is_at_place q.0 q.1 x ≡ false
named_nowhere x q e = and_left (bytes_eq x.name []) (stands_in q.0 q.1 x.definition) (some_name x.name e)

stands_not : (d : Defined) (s o : ℕ) → ((section offset : ℕ) → d ≡ InSection section offset → ⊥) → stands_in s o d ≡ false
stands_not Undefined s o f = refl
stands_not (Absolute n) s o f = refl
stands_not (Skipped n) s o f = refl
stands_not (InSection section offset) s o f = absurd (f section offset refl)

pub elsewhere : (x : Symbol) (q : ℕ × ℕ) → ((section offset : ℕ) → x.definition ≡ InSection section offset → ⊥) → is_at_place q.0 q.1 x ≡ false
elsewhere x q f = and_right (bytes_eq x.name []) (stands_in q.0 q.1 x.definition) (stands_not x.definition q.0 q.1 f)

pub place_more : (xs : List Symbol) (x : Symbol) (q : ℕ × ℕ) (section offset next : ℕ) (old new : Option ℕ) → (length x.name == 0) ≡ true → x.definition ≡ InSection section offset → next ≡ length xs
    → new ≡ cond (same_place (section, offset) q) (Some next) old → old ≡ last_index (is_at_place q.0 q.1) xs → new ≡ last_index (is_at_place q.0 q.1) (xs ++ x ∷ [])
place_more xs x q section offset next old new unnamed is at now before =
    let test : is_at_place q.0 q.1 x ≡ same_place (section, offset) q = ap (λ b. b && stands_in q.0 q.1 x.definition) (no_name x.name unnamed) ∙ ap (stands_in q.0 q.1) is in
    now ∙ ap (λ b. cond b (Some next) old) (sym test) ∙ ap (λ n. cond (is_at_place q.0 q.1 x) (Some n) old) at ∙ ap (λ o. cond (is_at_place q.0 q.1 x) (Some (length xs)) o) before
    ∙ sym (last_more (is_at_place q.0 q.1) xs x)

-- the symbols so far and one more
pub symbols_next : (xs : List DeclaredSymbol) (i : ℕ) (d : DeclaredSymbol) → i < length xs → map symbol_of (take (i + 1) xs) ≡ map symbol_of (take i xs) ++ symbol_of (get_or xs i d) ∷ []
symbols_next xs i d inside = ap (map symbol_of) (take_more xs i d inside) ∙ map-append symbol_of (take i xs) (get_or xs i d ∷ [])

pub symbols_count : (xs : List DeclaredSymbol) (i : ℕ) → i ≤ length xs → i ≡ length (map symbol_of (take i xs))
symbols_count xs i inside = sym (length-map (take i xs) symbol_of ∙ length-take-le i xs inside)

-- ---- look-ups

pub place_by : (own : List Symbol) (found : Option LaidStatement) (p : ℕ × ℕ) → Some p ≡ option_map place_in found → unwrap_or (last_index (is_at_place p.0 p.1) own) 0 ≡ place_number own found
place_by own None p e = absurd (cc)
place_by own (Some s) p e =
    let same : p ≡ place_in s = cc in
    ap (λ (q : ℕ × ℕ). unwrap_or (last_index (is_at_place q.0 q.1) own) 0) same

pub place_none : (own : List Symbol) (found : Option LaidStatement) → None ≡ option_map place_in found → 0 ≡ place_number own found
place_none own None e = refl
place_none own (Some s) e = absurd (cc)

position_map : (name : List ℕ) (ks : List (Bor (List ℕ))) → position_or_len (bytes_eq name) (map now_of ks) ≡ position_or_len (λ k. bytes_eq name k.now) ks
position_map name [] = refl
position_map name (k ∷ ks) = ap (λ n. cond (not (bytes_eq name k.now)) (1 + n) 0) (position_map name ks)

pub position_is : (name : List ℕ) (ks : List (Bor (List ℕ))) → position (λ k. bytes_eq name k.now) ks ≡ position (bytes_eq name) (map now_of ks)
position_is name ks =
    sym (ap (λ n. cond (nat_lt n (length (map now_of ks))) (Some n) None) (position_map name ks)
    ∙ ap (λ n. cond (nat_lt (position_or_len (λ k. bytes_eq name k.now) ks) n) (Some (position_or_len (λ k. bytes_eq name k.now) ks)) None) (length-map ks now_of))

-- symbols and the names after them are as many as what they were made of
pub few_after : (own : List DeclaredSymbol) (keys names : List (Bor (List ℕ))) (count : ℕ) → count ≡ length (map symbol_of own) → map now_of keys ≡ map now_of names → length own + length names < 2 ^ 32
    → count + length keys < 2 ^ 32
few_after own keys names count counted later few =
    let one : count ≡ length own = counted ∙ length-map own symbol_of in
    let two : length keys ≡ length names = sym (length-map keys now_of) ∙ ap length later ∙ length-map names now_of in
    subst (λ n. n < 2 ^ 32) (ap (λ n. n + length names) (sym one) ∙ ap (λ n. count + n) (sym two)) few
