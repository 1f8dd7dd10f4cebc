-- The first fault of a source: there is at most one, and a source that is read has none.

use Rattle.std.proofs.Common.{◌≡◌, ℕ, suc, ◌+◌, ◌<◌, ◌≤◌, false, List, [], ◌∷◌, ◌++◌, append_assoc, length, take, Some, Result, Err, refl, sym, ◌∙◌, ap, subst, arith, ◌⊎◌, inl, inr}
use Rattle.rv_expression_laws.specs.Cut.{Piece, texts, NothingReads, cut}
use Rattle.rv_expression_laws.specs.Lexing.{Token, Lexes, newlines}
use Rattle.rv_expression_laws.proofs.CutLemmas.{unique, nothing_none}
use Rattle.rv_expression_laws.proofs.TokensLemmas.{one_list}
use Rattle.rv_statement_laws.specs.Statement.{Statement}
use Rattle.rv_parse_laws.specs.Syntax.{SourcePart, IsPart, StopsPart, is_end}
use Rattle.rv_parse_laws.specs.Opening.{is_opened, OpenWell}
use Rattle.rv_parse_laws.specs.WrongOpening.{IsWrongOpening}
use Rattle.rv_parse_laws.specs.Parsing.{part_at, opening_at, checked_at}
use Rattle.rv_expression_laws.specs.Codes.{limit}
use Rattle.rv_expression_laws.specs.SyntaxError.{SyntaxError, wrong, fault_offset}
use Rattle.rv_parse_laws.specs.Reading.{AreParts, Reads, statements_of_parts, IsPastLine, longest_source}
use Rattle.rv_statement_laws.specs.Limits.{most_statements}
use Rattle.rv_parse_laws.proofs.OpenedWellLemmas.{all_open_well}
use Rattle.rv_parse_laws.specs.Refusals.{OpensWell, AllOpenWell, CanGoOn, WrongToken, WrongOpening, PastStatements, Stands, SyntaxFault, Refuses, RefusesAt}
use Rattle.rv_parse_laws.specs.Wrong.{IsWrongStatement}
use Rattle.rv_parse_laws.proofs.WrongStatementsLemmas.{statement_wrongs, statement_said}
use Rattle.rv_parse_laws.proofs.WrongPlacesLemmas.{statement_occurs}
use Rattle.rv_parse_laws.proofs.FailingLemmas.{shown_whole, heads, tails}
use Rattle.rv_parse_laws.proofs.PartsLemmas.{part_wrong, stops_there}
use Rattle.rv_parse_laws.proofs.OpeningsLemmas.{OpeningThere, opening_found, front_opens, checked_err, checked_wrong, opening_goes, opening_behind, said_none, opens_on}
use Rattle.rv_parse_laws.proofs.WholeLemmas.{find_part, finds_parts}
use Rattle.rv_parse_laws.proofs.CuttingLemmas.{GoesOn, comparable, no_part, wrong_there, no_further, same_or_more, nothing_more_said, none_at_end}
use Rattle.rv_parse_laws.proofs.PlacesLemmas.{LineIs, Standing, stand, standing_at, standing_behind, place_at_least, faults_apart, place_of_none, ended_rest}

-- the line of a token's faults, behind parts and further tokens
token_line : (bytes : List ℕ) (ts before : List Token) (t : Token) (more : List Token) → Lexes bytes ts → ts ≡ before ++ t ∷ more → LineIs bytes t
token_line bytes ts before t more lexes whole = (standing_at bytes 0 before t more (subst (Standing bytes 0) whole (stand bytes ts lexes))).1

-- the tokens from one on, behind others
standing_from : (bytes : List ℕ) (ts before : List Token) (t : Token) (us : List Token) → Lexes bytes ts → ts ≡ before ++ t ∷ us → Standing bytes t.start (t ∷ us)
standing_from bytes ts before t us lexes whole =
    let h = standing_behind bytes 0 before (t ∷ us) (subst (Standing bytes 0) whole (stand bytes ts lexes)) in
    (omega arith, h.1, h.2)

-- a token is wrong there, or an opening
abbrev pub IsFaulty : List ℕ → ℕ → ℕ → Type 0
IsFaulty bytes place code = WrongToken bytes place code ⊎ WrongOpening bytes place code

-- what is known where the part at the front of the rest is wrong
pub record WrongPart (bytes : List ℕ) (t : Token) (w : SyntaxError) : Type 0 where
  pub stands : IsFaulty bytes w.offset w.code
  pub line : w.line ≡ 1 + newlines (take w.offset bytes)
  pub behind : t.start ≤ w.offset

-- of two places in a list the one comes first, or they are the same
fronts : (xs ys : List Token) (x y : Token) (us vs : List Token) → xs ++ x ∷ us ≡ ys ++ y ∷ vs
    → ((xs ≡ ys) × (x ≡ y) × (us ≡ vs)) ⊎ (((zs : List Token) × (ys ≡ xs ++ x ∷ zs)) ⊎ ((zs : List Token) × (xs ≡ ys ++ y ∷ zs)))
fronts [] [] x y us vs e = inl (refl, heads e, tails e)
fronts [] (b ∷ ys) x y us vs e = inr (inl (ys, ap (λ (t : Token). t ∷ ys) (sym (heads e))))
fronts (a ∷ xs) [] x y us vs e = inr (inr (xs, ap (λ (t : Token). t ∷ xs) (heads e)))
fronts (a ∷ xs) (b ∷ ys) x y us vs e =
    let first : a ≡ b = heads e in
    elim (fronts xs ys x y us vs (tails e)) [
      | inl s ↦ inl (ap (λ (t : Token). t ∷ xs) first ∙ ap (λ (zs : List Token). b ∷ zs) s.0, s.1, s.2)
      | inr (inl z) ↦ inr (inl (z.0, ap (λ (t : Token). t ∷ ys) (sym first) ∙ ap (λ (zs : List Token). a ∷ zs) z.1))
      | inr (inr z) ↦ inr (inr (z.0, ap (λ (t : Token). t ∷ xs) first ∙ ap (λ (zs : List Token). b ∷ zs) z.1))
    ]

-- a token with which nothing goes on
wrong_read : (bytes : List ℕ) (ts : List Token) (parts : List (Piece SourcePart Token)) (t : Token) (us : List Token) (w : SyntaxError) → Lexes bytes ts → AreParts ts parts (t ∷ us)
    → AllOpenWell [] parts (t ∷ us) → part_at (t ∷ us) ≡ Err w → OpensWell (statements_of_parts parts) (t ∷ us) → WrongPart bytes t w
wrong_read bytes ts parts t us w lexes cut opens e well =
    let s = part_wrong (t ∷ us) w (ended_rest bytes ts (texts parts) t us lexes cut.whole) e in
    let shown = s.is_wrong in
    let code : w.code ≡ shown.3 = ap (λ (x : SyntaxError). x.code) shown.5 in
    let place : w.offset ≡ fault_offset shown.2 w.code = ap (λ (x : SyntaxError). x.offset) shown.5 ∙ ap (fault_offset shown.2) (sym code) in
    let there : t ∷ us ≡ shown.0 ++ shown.2 ∷ (shown.1 ++ s.more) = shown_whole (t ∷ us) s.before s.at s.more w s.whole shown in
    let whole : ts ≡ (texts parts ++ shown.0) ++ shown.2 ∷ (shown.1 ++ s.more) = cut.whole ∙ ap (λ xs. texts parts ++ xs) there ∙ sym (append_assoc (texts parts) shown.0 (shown.2 ∷ (shown.1 ++ s.more))) in
    let line : shown.2.line ≡ 1 + newlines (take (fault_offset shown.2 w.code) bytes) = token_line bytes ts (texts parts ++ shown.0) shown.2 (shown.1 ++ s.more) lexes whole w.code in
    let from = (standing_at bytes t.start shown.0 shown.2 (shown.1 ++ s.more) (subst (Standing bytes t.start) there (standing_from bytes ts (texts parts) t us lexes cut.whole))).0 in
    let least : shown.2.start ≤ fault_offset shown.2 w.code = place_at_least shown.2 w.code in
    record {
      stands = inl (record {
        tokens = ts;
        lexes = lexes;
        parts = parts;
        rest = t ∷ us;
        cut = cut;
        opens = opens;
        nothing = no_part (t ∷ us) w e;
        before = s.before;
        at = s.at;
        more = s.more;
        whole = s.whole;
        goes = (s.goes.1, s.goes.0, s.goes.2.0, s.goes.2.1);
        stops = λ h. stops_there (t ∷ us) w s h.0 h.1 (h.2, subst (IsPart h.0) (append_assoc s.before (s.at ∷ []) h.1) h.3);
        opens_well = front_opens (statements_of_parts parts) (s.before ++ s.at ∷ []) (t ∷ us) s.more (s.whole ∙ sym (append_assoc s.before (s.at ∷ []) s.more)) well;
        front = shown.0;
        shown = shown.2;
        back = shown.1;
        shown_is = shown.4;
        fault_is = as_said shown.2 w.code shown.0 (shown.1 ++ s.more) there (shown.5 ∙ ap (wrong shown.2) (sym code));
        place_is = place;
      });
      line = ap (λ (x : SyntaxError). x.line) shown.5 ∙ line ∙ ap (λ n. 1 + newlines (take n bytes)) (sym place);
      behind = omega (arith, from, least, place);
    }
  where
    -- what the relation says is wrong is the token at which the reading is
    as_said : (u : Token) (code : ℕ) (front back : List Token) → t ∷ us ≡ front ++ u ∷ back → w ≡ wrong u code → IsWrongStatement (t ∷ us) u code
    as_said u code front back there is =
        let k = statement_said (t ∷ us) w (ended_rest bytes ts (texts parts) t us lexes cut.whole) e in
        let o = statement_occurs (t ∷ us) k.0 k.1 k.2 in
        let same : wrong k.0 k.1 ≡ wrong u code = sym k.3 ∙ is in
        let codes : k.1 ≡ code = ap (λ (x : SyntaxError). x.code) same in
        let offsets : fault_offset k.0 k.1 ≡ fault_offset u code = ap (λ (x : SyntaxError). x.offset) same in
        let standing : Standing bytes t.start (t ∷ us) = standing_from bytes ts (texts parts) t us lexes cut.whole in
        elim (fronts o.0 front k.0 u o.1 back (sym o.2 ∙ there)) [
          | inl x ↦ subst (λ v. IsWrongStatement (t ∷ us) v code) x.1 (subst (IsWrongStatement (t ∷ us) k.0) codes k.2)
          | inr (inl x) ↦ (let lt = faults_apart bytes t.start o.0 k.0 x.0 u back k.1 code
              (subst (Standing bytes t.start) (there ∙ ap (λ vs. vs ++ u ∷ back) x.1 ∙ append_assoc o.0 (k.0 ∷ x.0) (u ∷ back)) standing) in absurd (omega (arith, lt, offsets)))
          | inr (inr x) ↦ (let lt = faults_apart bytes t.start front u x.0 k.0 o.1 code k.1
              (subst (Standing bytes t.start) (o.2 ∙ ap (λ vs. vs ++ k.0 ∷ o.1) x.1 ∙ append_assoc front (u ∷ x.0) (k.0 ∷ o.1)) standing) in absurd (omega (arith, lt, offsets)))
        ]

-- an opening that is wrong
wrong_opened : (bytes : List ℕ) (ts : List Token) (parts : List (Piece SourcePart Token)) (t : Token) (us : List Token) (w : SyntaxError) → Lexes bytes ts → AreParts ts parts (t ∷ us)
    → AllOpenWell [] parts (t ∷ us) → OpeningThere (is_opened (statements_of_parts parts)) (t ∷ us) w → WrongPart bytes t w
wrong_opened bytes ts parts t us w lexes cut opens x =
    let whole : ts ≡ (texts parts ++ x.before) ++ x.at ∷ x.more = cut.whole ∙ ap (λ xs. texts parts ++ xs) x.whole ∙ sym (append_assoc (texts parts) x.before (x.at ∷ x.more)) in
    let line : x.at.line ≡ 1 + newlines (take (fault_offset x.at x.code) bytes) = token_line bytes ts (texts parts ++ x.before) x.at x.more lexes whole x.code in
    let from = (standing_at bytes t.start x.before x.at x.more (subst (Standing bytes t.start) x.whole (standing_from bytes ts (texts parts) t us lexes cut.whole))).0 in
    let least : x.at.start ≤ fault_offset x.at x.code = place_at_least x.at x.code in
    let place : w.offset ≡ fault_offset x.at x.code = ap (λ (v : SyntaxError). v.offset) x.is_wrong in
    let code : w.code ≡ x.code = ap (λ (v : SyntaxError). v.code) x.is_wrong in
    record {
      stands = inr (record {
        tokens = ts;
        lexes = lexes;
        parts = parts;
        before = x.before;
        at = x.at;
        more = x.more;
        cut = subst (AreParts ts parts) x.whole cut;
        opens = subst (AllOpenWell [] parts) x.whole opens;
        wrong = subst (IsWrongOpening (statements_of_parts parts) x.before x.at) (sym code) x.is;
        place_is = place ∙ ap (fault_offset x.at) (sym code);
      });
      line = ap (λ (v : SyntaxError). v.line) x.is_wrong ∙ line ∙ ap (λ n. 1 + newlines (take n bytes)) (sym place);
      behind = omega (arith, from, least, place);
    }

pub wrong_part : (bytes : List ℕ) (ts : List Token) (parts : List (Piece SourcePart Token)) (t : Token) (us : List Token) (w : SyntaxError) → Lexes bytes ts → AreParts ts parts (t ∷ us)
    → AllOpenWell [] parts (t ∷ us) → checked_at (is_opened (statements_of_parts parts)) (t ∷ us) ≡ Err w → WrongPart bytes t w
wrong_part bytes ts parts t us w lexes cut opens e = elim (checked_err (statements_of_parts parts) (t ∷ us) w e) [
  | inl x ↦ wrong_opened bytes ts parts t us w lexes cut opens x
  | inr x ↦ wrong_read bytes ts parts t us w lexes cut opens x.0 x.1
]

-- what goes on goes on from its fronts
goes_on_front : (rest before : List Token) (at : Token) (more all : List Token) → all ≡ before ++ at ∷ more → CanGoOn rest all → CanGoOn rest (before ++ at ∷ [])
goes_on_front rest before at more all is (p, after, label, spelled) =
    (p, more ++ after, label, subst (IsPart p) (ap (λ us. us ++ after) is ∙ append_assoc before (at ∷ more) after ∙ sym (append_assoc before (at ∷ []) (more ++ after))) spelled)

same_errors : (t u : Token) (c d : ℕ) → ◌≡◌ {A = Result (SourcePart × List Token) SyntaxError} (Err (wrong t c)) (Err (wrong u d)) → (fault_offset t c ≡ fault_offset u d) × (c ≡ d)
same_errors t u c d e =
    let same : wrong t c ≡ wrong u d = cc in
    (ap (λ (x : SyntaxError). x.offset) same, ap (λ (x : SyntaxError). x.code) same)

-- at most one token is wrong
pub one_wrong : (bytes : List ℕ) (p c q d : ℕ) → WrongToken bytes p c → WrongToken bytes q d → (p ≡ q) × (c ≡ d)
one_wrong bytes p c q d x y =
    let tokens : x.tokens ≡ y.tokens = one_list bytes x.tokens y.tokens x.lexes y.lexes in
    let one : cut find_part x.tokens ≡ (x.parts, x.rest) = unique finds_parts x.tokens x.parts x.rest x.cut (nothing_none finds_parts x.rest x.nothing) in
    let two : cut find_part y.tokens ≡ (y.parts, y.rest) = unique finds_parts y.tokens y.parts y.rest y.cut (nothing_none finds_parts y.rest y.nothing) in
    let rests : y.rest ≡ x.rest = ap (λ (z : List (Piece SourcePart Token) × List Token). z.1) (sym two ∙ ap (cut find_part) (sym tokens) ∙ one) in
    let one : part_at x.rest ≡ Err (wrong x.shown c) = statement_wrongs x.rest x.shown c x.fault_is in
    let two : part_at y.rest ≡ Err (wrong y.shown d) = statement_wrongs y.rest y.shown d y.fault_is in
    let k = same_errors x.shown y.shown c d (sym one ∙ ap part_at (sym rests) ∙ two) in
    (x.place_is ∙ k.0 ∙ sym y.place_is, k.1)

same_wrongs : (t u : Token) (c d : ℕ) → Some (wrong t c) ≡ Some (wrong u d) → (fault_offset t c ≡ fault_offset u d) × (c ≡ d)
same_wrongs t u c d e =
    let same : wrong t c ≡ wrong u d = cc in
    (ap (λ (x : SyntaxError). x.offset) same, ap (λ (x : SyntaxError). x.code) same)

-- at most one opening is wrong
one_opening : (bytes : List ℕ) (p c q d : ℕ) → WrongOpening bytes p c → WrongOpening bytes q d → (p ≡ q) × (c ≡ d)
one_opening bytes p c q d x y =
    let tokens : y.tokens ≡ x.tokens = one_list bytes y.tokens x.tokens y.lexes x.lexes in
    go (comparable x.tokens x.parts y.parts (x.before ++ x.at ∷ x.more) (y.before ++ y.at ∷ y.more) x.cut (subst (λ xs. AreParts xs y.parts (y.before ++ y.at ∷ y.more)) tokens y.cut))
  where
    here : x.before ++ x.at ∷ x.more ≡ y.before ++ y.at ∷ y.more → statements_of_parts y.parts ≡ statements_of_parts x.parts → (p ≡ q) × (c ≡ d)
    here rests says =
        let one = opening_found (statements_of_parts x.parts) x.before x.at c x.more x.wrong in
        let two = opening_found (statements_of_parts x.parts) y.before y.at d y.more (subst (λ ss. IsWrongOpening ss y.before y.at d) says y.wrong) in
        let k = same_wrongs x.at y.at c d (sym one ∙ ap (opening_at (is_opened (statements_of_parts x.parts))) rests ∙ two) in
        (x.place_is ∙ k.0 ∙ sym y.place_is, k.1)

    go : GoesOn x.parts (x.before ++ x.at ∷ x.more) y.parts (y.before ++ y.at ∷ y.more) ⊎ GoesOn y.parts (y.before ++ y.at ∷ y.more) x.parts (x.before ++ x.at ∷ x.more)
        → (p ≡ q) × (c ≡ d)
    go (inl ([], is, cut)) = here cut.whole (said_none x.parts y.parts is)
    go (inl (m ∷ more, is, cut)) = absurd (opens_on x.parts y.parts m more _ _ is cut y.opens x.before x.at x.more c refl x.wrong)
    go (inr ([], is, cut)) = here (sym cut.whole) (sym (said_none y.parts x.parts is))
    go (inr (m ∷ more, is, cut)) = absurd (opens_on y.parts x.parts m more _ _ is cut x.opens y.before y.at y.more d refl y.wrong)

-- not both a token and an opening are wrong
not_token_and_opening : (bytes : List ℕ) (p c q d : ℕ) → WrongToken bytes p c → WrongOpening bytes q d → ⊥
not_token_and_opening bytes p c q d x y =
    let tokens : y.tokens ≡ x.tokens = one_list bytes y.tokens x.tokens y.lexes x.lexes in
    go (comparable x.tokens x.parts y.parts x.rest (y.before ++ y.at ∷ y.more) x.cut (subst (λ xs. AreParts xs y.parts (y.before ++ y.at ∷ y.more)) tokens y.cut))
  where
    here : x.rest ≡ y.before ++ y.at ∷ y.more → statements_of_parts y.parts ≡ statements_of_parts x.parts → ⊥
    here rests says =
        let wrong : IsWrongOpening (statements_of_parts x.parts) y.before y.at d = subst (λ ss. IsWrongOpening ss y.before y.at d) says y.wrong in
        elim (fronts x.before y.before x.at y.at x.more y.more (sym x.whole ∙ rests)) [
          | inl s ↦ x.opens_well y.before y.at [] d (ap (λ us. us ++ x.at ∷ []) s.0 ∙ ap (λ (t : Token). y.before ++ t ∷ []) s.1) wrong
          | inr (inl z) ↦ x.stops (goes_on_front x.rest x.before x.at z.0 y.before z.1
              (subst (λ us. CanGoOn us y.before) (sym rests) (opening_goes (statements_of_parts x.parts) y.before y.at d y.more wrong)))
          | inr (inr z) ↦ x.opens_well y.before y.at (z.0 ++ x.at ∷ []) d (ap (λ us. us ++ x.at ∷ []) z.1 ∙ append_assoc y.before (y.at ∷ z.0) (x.at ∷ [])) wrong
        ]

    go : GoesOn x.parts x.rest y.parts (y.before ++ y.at ∷ y.more) ⊎ GoesOn y.parts (y.before ++ y.at ∷ y.more) x.parts x.rest → ⊥
    go (inl ([], is, cut)) = here cut.whole (said_none x.parts y.parts is)
    go (inl (m ∷ more, is, cut)) = no_further x.rest m more _ x.nothing cut
    go (inr ([], is, cut)) = here (sym cut.whole) (sym (said_none y.parts x.parts is))
    go (inr (m ∷ more, is, cut)) = opens_on y.parts x.parts m more _ _ is cut x.opens y.before y.at y.more d refl y.wrong

-- at most one of both
pub one_faulty : (bytes : List ℕ) (p c q d : ℕ) → IsFaulty bytes p c → IsFaulty bytes q d → (p ≡ q) × (c ≡ d)
one_faulty bytes p c q d (inl x) (inl y) = one_wrong bytes p c q d x y
one_faulty bytes p c q d (inl x) (inr y) = absurd (not_token_and_opening bytes p c q d x y)
one_faulty bytes p c q d (inr x) (inl y) = absurd (not_token_and_opening bytes q d p c y x)
one_faulty bytes p c q d (inr x) (inr y) = one_opening bytes p c q d x y

behind_first : (t : Token) (us text rest : List Token) → t ∷ us ≡ text ++ rest → 0 < length text → (vs : List Token) × (us ≡ vs ++ rest)
behind_first t us [] rest whole some = absurd (omega (arith, some))
behind_first t us (v ∷ vs) rest whole some = (vs, tails whole)

-- a wrong token stands behind the first token of good parts
behind_good : (bytes : List ℕ) (t : Token) (us : List Token) (m : Piece SourcePart Token) (more : List (Piece SourcePart Token)) (rest before : List Token) (at : Token) (others : List Token) (p code : ℕ)
    → Standing bytes t.start (t ∷ us) → AreParts (t ∷ us) (m ∷ more) rest → rest ≡ before ++ at ∷ others → p ≡ fault_offset at code → t.start < p
behind_good bytes t us m more rest before at others p code standing cut whole place =
    let f = behind_first t us m.text (texts more ++ rest) (cut.whole ∙ append_assoc m.text (texts more) rest) (finds_parts.some m.kind m.text cut.each.0) in
    let is : us ≡ (f.0 ++ (texts more ++ before)) ++ at ∷ others =
    f.1 ∙ ap (λ xs. f.0 ++ (texts more ++ xs)) whole ∙ ap (λ xs. f.0 ++ xs) (sym (append_assoc (texts more) before (at ∷ others)))
    ∙ sym (append_assoc f.0 (texts more ++ before) (at ∷ others)) in
    let h = (standing_at bytes (suc (fault_offset t limit)) (f.0 ++ (texts more ++ before)) at others (subst (Standing bytes (suc (fault_offset t limit))) is standing.2)).0 in
    let least : at.start ≤ fault_offset at code = place_at_least at code in
    omega (arith, h, place_at_least t limit, least, place)

apart : (a b : ℕ) → a ≤ b → (a ≡ b → ⊥) → a < b
apart a b le other = grind arith

-- behind a cut up to a token, where the part there is good or wrong behind the token, what is wrong stands behind it
pub wrong_behind : (bytes : List ℕ) (ts : List Token) (ps : List (Piece SourcePart Token)) (t : Token) (us : List Token) (p c : ℕ) → Lexes bytes ts → AreParts ts ps (t ∷ us)
    → AllOpenWell [] ps (t ∷ us) → ((w : SyntaxError) → checked_at (is_opened (statements_of_parts ps)) (t ∷ us) ≡ Err w → w.offset ≡ t.start → ⊥) → IsFaulty bytes p c → t.start < p
wrong_behind bytes ts ps t us p c lexes cut opens not (inl x) =
    let tokens : x.tokens ≡ ts = one_list bytes x.tokens ts x.lexes lexes in
    go (comparable ts ps x.parts (t ∷ us) x.rest cut (subst (λ xs. AreParts xs x.parts x.rest) tokens x.cut))
  where
    here : x.rest ≡ t ∷ us → t.start < p
    here same =
        let e = wrong_there (t ∷ us) (subst (λ xs. NothingReads IsPart StopsPart xs) same x.nothing) in
        let v = checked_wrong (statements_of_parts ps) (t ∷ us) e.0 e.1 in
        let k = wrong_part bytes ts ps t us v.0 lexes cut opens v.1 in
        let place : v.0.offset ≡ p = (one_faulty bytes v.0.offset v.0.code p c k.stands (inl x)).0 in
        let le : t.start ≤ p = omega (arith, k.behind, place) in
        apart t.start p le (λ h. not v.0 v.1 (place ∙ sym h))

    go : GoesOn ps (t ∷ us) x.parts x.rest ⊎ GoesOn x.parts x.rest ps (t ∷ us) → t.start < p
    go (inl ([], is, c)) = here (sym c.whole)
    go (inl (m ∷ more, is, d)) =
        behind_good bytes t us m more x.rest x.front x.shown (x.back ++ x.more) p c (standing_from bytes ts (texts ps) t us lexes cut.whole) d
        (x.whole ∙ sym (append_assoc x.before (x.at ∷ []) x.more) ∙ ap (λ xs. xs ++ x.more) x.shown_is ∙ append_assoc x.front (x.shown ∷ x.back) x.more) x.place_is
    go (inr ([], is, c)) = here c.whole
    go (inr (m ∷ more, is, c)) = absurd (no_further x.rest m more (t ∷ us) x.nothing c)
wrong_behind bytes ts ps t us p c lexes cut opens not (inr x) =
    let tokens : x.tokens ≡ ts = one_list bytes x.tokens ts x.lexes lexes in
    go (comparable ts ps x.parts (t ∷ us) (x.before ++ x.at ∷ x.more) cut (subst (λ xs. AreParts xs x.parts (x.before ++ x.at ∷ x.more)) tokens x.cut))
  where
    standing : Standing bytes t.start (t ∷ us)
    standing = standing_from bytes ts (texts ps) t us lexes cut.whole

    here : t ∷ us ≡ x.before ++ x.at ∷ x.more → t.start < p
    here same =
        let from = (standing_at bytes t.start x.before x.at x.more (subst (Standing bytes t.start) same standing)).0 in
        let some = opening_behind (statements_of_parts x.parts) x.before x.at c x.wrong in
        let least : x.at.start ≤ fault_offset x.at c = place_at_least x.at c in
        let place = x.place_is in
        omega (arith, from, some, least, place)

    go : GoesOn ps (t ∷ us) x.parts (x.before ++ x.at ∷ x.more) ⊎ GoesOn x.parts (x.before ++ x.at ∷ x.more) ps (t ∷ us) → t.start < p
    go (inl ([], is, d)) = here d.whole
    go (inl (m ∷ more, is, d)) = behind_good bytes t us m more (x.before ++ x.at ∷ x.more) x.before x.at x.more p c standing d refl x.place_is
    go (inr ([], is, d)) = here (sym d.whole)
    go (inr (m ∷ more, is, d)) = absurd (opens_on x.parts ps m more _ _ is d opens x.before x.at x.more c refl x.wrong)

-- what a cut does not go on with
abbrev pub StopsHere : List (Piece SourcePart Token) → List Token → Type 0
StopsHere ps rest = (m : Piece SourcePart Token) (more : List (Piece SourcePart Token)) (other : List Token) → AreParts rest (m ∷ more) other → OpensWell (statements_of_parts ps) rest → ⊥

stops_here : (ps : List (Piece SourcePart Token)) (rest : List Token) (w : SyntaxError) → checked_at (is_opened (statements_of_parts ps)) rest ≡ Err w → StopsHere ps rest
stops_here ps rest w e m more other cut well = elim (checked_err (statements_of_parts ps) rest w e) [
  | inl x ↦ well x.before x.at x.more x.code x.whole x.is
  | inr x ↦ no_further rest m more other (no_part rest w x.0) cut
]

-- a statement too many is the rest of a cut that goes as far as it can, or the cut says more
past_where : (bytes : List ℕ) (ts : List Token) (ps : List (Piece SourcePart Token)) (rest : List Token) (q : ℕ) → Lexes bytes ts → AreParts ts ps rest → StopsHere ps rest
    → (x : PastStatements bytes q) → ((rest ≡ x.at ∷ x.more) × (length (statements_of_parts ps) ≡ most_statements)) ⊎ (most_statements < length (statements_of_parts ps))
past_where bytes ts ps rest q lexes cut ends x =
    let tokens : x.tokens ≡ ts = one_list bytes x.tokens ts x.lexes lexes in
    go (comparable ts x.parts ps (x.at ∷ x.more) rest (subst (λ xs. AreParts xs x.parts (x.at ∷ x.more)) tokens x.cut) cut)
  where
    go : GoesOn x.parts (x.at ∷ x.more) ps rest ⊎ GoesOn ps rest x.parts (x.at ∷ x.more) → ((rest ≡ x.at ∷ x.more) × (length (statements_of_parts ps) ≡ most_statements)) ⊎ (most_statements < length (statements_of_parts ps))
    go (inl on) = elim (same_or_more x.at x.more x.parts ps rest x.begins_one on) [
      | inl s ↦ inl (sym s.0, sym s.1 ∙ x.most)
      | inr more ↦ inr (subst (λ n. n < length (statements_of_parts ps)) x.most more)
    ]
    go (inr ([], is, c)) = inl (c.whole, nothing_more_said ps x.parts is ∙ x.most)
    go (inr (m ∷ more, is, c)) = absurd (ends m more (x.at ∷ x.more) c (opens_on ps x.parts m more rest (x.at ∷ x.more) is c x.opens))

-- a fault that stands at a token: a wrong one, also in an opening, or the first of a statement too many
abbrev pub InTokens : List ℕ → ℕ → ℕ → Type 0
InTokens bytes place code = IsFaulty bytes place code ⊎ ((code ≡ limit) × PastStatements bytes place)

-- the first fault that stands at a token
pub record FirstInTokens (bytes : List ℕ) (w : SyntaxError) : Type 0 where
  pub stands : InTokens bytes w.offset w.code
  pub first : (p c : ℕ) → InTokens bytes p c → (w.offset < p) ⊎ ((w.offset ≡ p) × (w.code ≤ c))
  pub line : w.line ≡ 1 + newlines (take w.offset bytes)

-- the part at the front of the rest is wrong, and no statement too many begins before that place
pub wrong_first : (bytes : List ℕ) (ts : List Token) (ps : List (Piece SourcePart Token)) (t : Token) (us : List Token) (w : SyntaxError) → Lexes bytes ts → AreParts ts ps (t ∷ us)
    → AllOpenWell [] ps (t ∷ us) → checked_at (is_opened (statements_of_parts ps)) (t ∷ us) ≡ Err w → w.code ≤ limit → (length (statements_of_parts ps) < most_statements) ⊎ ((length (statements_of_parts ps) ≡ most_statements) × (w.offset ≡ t.start)) → FirstInTokens bytes w
wrong_first bytes ts ps t us w lexes cut opens e low few = record {
  stands = inl k.stands;
  first = first;
  line = k.line;
}
  where
    k : WrongPart bytes t w
    k = wrong_part bytes ts ps t us w lexes cut opens e

    at_past : (x : Token) (p c : ℕ) (xs : List Token) → t ∷ us ≡ x ∷ xs → length (statements_of_parts ps) ≡ most_statements → c ≡ limit → p ≡ x.start
        → (length (statements_of_parts ps) < most_statements) ⊎ ((length (statements_of_parts ps) ≡ most_statements) × (w.offset ≡ t.start)) → (w.offset < p) ⊎ ((w.offset ≡ p) × (w.code ≤ c))
    at_past x p c xs same all is place (inl fewer) = absurd (omega (arith, all, fewer))
    at_past x p c xs same all is place (inr (count, here)) = inr (here ∙ ap (λ (y : Token). y.start) (heads same) ∙ sym place, subst (λ n. w.code ≤ n) (sym is) low)

    too_many : (length (statements_of_parts ps) < most_statements) ⊎ ((length (statements_of_parts ps) ≡ most_statements) × (w.offset ≡ t.start)) → most_statements < length (statements_of_parts ps) → ⊥
    too_many (inl fewer) more = omega (arith, fewer, more)
    too_many (inr (count, here)) more = omega (arith, count, more)

    first : (p c : ℕ) → InTokens bytes p c → (w.offset < p) ⊎ ((w.offset ≡ p) × (w.code ≤ c))
    first p c (inl x) = let same = one_faulty bytes w.offset w.code p c k.stands x in inr (same.0, subst (λ n. w.code ≤ n) same.1 (omega arith))
    first p c (inr (is, x)) = elim (past_where bytes ts ps (t ∷ us) p lexes cut (stops_here ps (t ∷ us) w e) x) [
      | inl s ↦ at_past x.at p c x.more s.0 s.1 is x.place_is few
      | inr more ↦ absurd (too_many few more)
    ]

-- a statement too many begins, and the part there is good or wrong behind its first token
pub past_first : (bytes : List ℕ) (ts : List Token) (ps : List (Piece SourcePart Token)) (t : Token) (us : List Token) → Lexes bytes ts → AreParts ts ps (t ∷ us)
    → AllOpenWell [] ps (t ∷ us) → is_end t.kind ≡ false → length (statements_of_parts ps) ≡ most_statements → ((w : SyntaxError) → checked_at (is_opened (statements_of_parts ps)) (t ∷ us) ≡ Err w → w.offset ≡ t.start → ⊥)
    → FirstInTokens bytes (record { offset = t.start; line = t.line; code = limit })
past_first bytes ts ps t us lexes cut opens no_end most not = record {
  stands = inr (refl, record { tokens = ts; lexes = lexes; parts = ps; at = t; more = us; cut = cut; opens = opens; most = most; begins_one = no_end; place_is = refl });
  first = first;
  line = token_line bytes ts (texts ps) t us lexes cut.whole 0 ∙ ap (λ n. 1 + newlines (take n bytes)) (place_of_none t);
}
  where
    same_token : (x : Token) (xs : List Token) (qs : List (Piece SourcePart Token)) → is_end x.kind ≡ false → length (statements_of_parts qs) ≡ most_statements
        → GoesOn ps (t ∷ us) qs (x ∷ xs) ⊎ GoesOn qs (x ∷ xs) ps (t ∷ us) → t ≡ x
    same_token x xs qs no_end' most' (inl on) = elim (same_or_more t us ps qs (x ∷ xs) no_end on) [
      | inl s ↦ heads s.0
      | inr more ↦ absurd (omega (arith, most, most', more))
    ]
    same_token x xs qs no_end' most' (inr on) = elim (same_or_more x xs qs ps (t ∷ us) no_end' on) [
      | inl s ↦ sym (heads s.0)
      | inr more ↦ absurd (omega (arith, most, most', more))
    ]

    first : (p c : ℕ) → InTokens bytes p c → (t.start < p) ⊎ ((t.start ≡ p) × (limit ≤ c))
    first p c (inl x) = inl (wrong_behind bytes ts ps t us p c lexes cut opens not x)
    first p c (inr (is, x)) =
        let tokens : x.tokens ≡ ts = one_list bytes x.tokens ts x.lexes lexes in
        let same : t ≡ x.at = same_token x.at x.more x.parts x.begins_one x.most
        (comparable ts ps x.parts (t ∷ us) (x.at ∷ x.more) cut (subst (λ xs. AreParts xs x.parts (x.at ∷ x.more)) tokens x.cut)) in
        inr (ap (λ (y : Token). y.start) same ∙ sym x.place_is, subst (λ n. limit ≤ n) (sym is) (omega arith))

-- no fault stands at the tokens of statements that are all read, and not too many
pub all_good : (bytes : List ℕ) (ts : List Token) (ps : List (Piece SourcePart Token)) → Lexes bytes ts → AreParts ts ps [] → AllOpenWell [] ps [] → length (statements_of_parts ps) ≤ most_statements
    → (p c : ℕ) → InTokens bytes p c → ⊥
all_good bytes ts ps lexes parts opens few p c fault = go fault
  where
    nothing : NothingReads IsPart StopsPart []
    nothing = none_at_end

    no_rest : (before : List Token) (at : Token) (more : List Token) → [] ≡ before ++ at ∷ more → ⊥
    no_rest [] at more e = cc
    no_rest (b ∷ before) at more e = cc

    opened : (x : WrongOpening bytes p c) → GoesOn ps [] x.parts (x.before ++ x.at ∷ x.more) ⊎ GoesOn x.parts (x.before ++ x.at ∷ x.more) ps [] → ⊥
    opened x (inl ([], is, d)) = no_rest x.before x.at x.more d.whole
    opened x (inl (m ∷ more, is, d)) = no_further [] m more _ nothing d
    opened x (inr ([], is, d)) = no_rest x.before x.at x.more (sym d.whole)
    opened x (inr (m ∷ more, is, d)) = opens_on x.parts ps m more _ _ is d opens x.before x.at x.more c refl x.wrong

    go : InTokens bytes p c → ⊥
    go (inl (inr x)) =
        let tokens : x.tokens ≡ ts = one_list bytes x.tokens ts x.lexes lexes in
        opened x (comparable ts ps x.parts [] (x.before ++ x.at ∷ x.more) parts (subst (λ xs. AreParts xs x.parts (x.before ++ x.at ∷ x.more)) tokens x.cut))
    go (inl (inl x)) =
        let tokens : ts ≡ x.tokens = one_list bytes ts x.tokens lexes x.lexes in
        let one : cut find_part ts ≡ (ps, []) = unique finds_parts ts ps [] parts (nothing_none finds_parts [] nothing) in
        let two : cut find_part x.tokens ≡ (x.parts, x.rest) = unique finds_parts x.tokens x.parts x.rest x.cut (nothing_none finds_parts x.rest x.nothing) in
        let rests : [] ≡ x.rest = ap (λ (z : List (Piece SourcePart Token) × List Token). z.1) (sym one ∙ ap (cut find_part) tokens ∙ two) in
        no_rest x.before x.at x.more (rests ∙ x.whole)
    go (inr (is, x)) = elim (past_where bytes ts ps [] p lexes parts (λ m more other d well. no_further [] m more other nothing d) x) [
      | inl s ↦ no_rest [] x.at x.more s.0
      | inr more ↦ omega (arith, few, more)
    ]

-- a line that is too long comes first
pub line_refused : (bytes : List ℕ) (place line : ℕ) → length bytes ≤ longest_source → IsPastLine bytes place
    → ((q : ℕ) → IsPastLine bytes q → place ≤ q) → ((p c : ℕ) → InTokens bytes p c → place < p) → line ≡ 1 + newlines (take place bytes) → RefusesAt bytes place (record { code = limit; line = line })
line_refused bytes place line short past least before is = inr (
  short,
  record {
    place = place;
    stands = inr (inr (inl (refl, past)));
    first = first;
    line = is;
  },
  refl,
)
  where
    within : (p c : ℕ) → place ≤ p → limit ≤ c → (place < p) ⊎ ((place ≡ p) × (limit ≤ c))
    within p c le code = grind arith

    first : (p c : ℕ) → Stands bytes p c → (place < p) ⊎ ((place ≡ p) × (limit ≤ c))
    first p c (inl x) = inl (before p c (inl (inl x)))
    first p c (inr (inl x)) = inl (before p c (inl (inr x)))
    first p c (inr (inr (inl (code, at)))) = within p c (least p at) (subst (λ n. limit ≤ n) (sym code) (omega arith))
    first p c (inr (inr (inr x))) = inl (before p c (inr x))

pub before_tokens : (bytes : List ℕ) (w : SyntaxError) (place p c : ℕ) → FirstInTokens bytes w → place < w.offset → InTokens bytes p c → place < p
before_tokens bytes w place p c first before fault = elim (first.first p c fault) [
  | inl lt ↦ omega (arith, before, lt)
  | inr same ↦ omega (arith, before, same.0)
]

-- a token's fault comes first
pub token_refused : (bytes : List ℕ) (w : SyntaxError) → length bytes ≤ longest_source → FirstInTokens bytes w → w.code ≤ limit
    → ((place : ℕ) → IsPastLine bytes place → w.offset ≤ place) → RefusesAt bytes w.offset (record { code = w.code; line = w.line })
token_refused bytes w short tokens low lines = inr (
  short,
  record {
    place = w.offset;
    stands = stands tokens.stands;
    first = first;
    line = tokens.line;
  },
  refl,
)
  where
    stands : InTokens bytes w.offset w.code → Stands bytes w.offset w.code
    stands (inl (inl x)) = inl x
    stands (inl (inr x)) = inr (inl x)
    stands (inr x) = inr (inr (inr x))

    within : (p c : ℕ) → w.offset ≤ p → w.code ≤ c → (w.offset < p) ⊎ ((w.offset ≡ p) × (w.code ≤ c))
    within p c le code = grind arith

    first : (p c : ℕ) → Stands bytes p c → (w.offset < p) ⊎ ((w.offset ≡ p) × (w.code ≤ c))
    first p c (inl x) = tokens.first p c (inl (inl x))
    first p c (inr (inl x)) = tokens.first p c (inl (inr x))
    first p c (inr (inr (inl (code, at)))) = within p c (lines p at) (subst (λ n. w.code ≤ n) (sym code) low)
    first p c (inr (inr (inr x))) = tokens.first p c (inr x)

-- the first of two faults is one
same_first : (p q c d : ℕ) → (p < q) ⊎ ((p ≡ q) × (c ≤ d)) → (q < p) ⊎ ((q ≡ p) × (d ≤ c)) → (p ≡ q) × (c ≡ d)
same_first p q c d (inl lt) (inl gt) = absurd (omega (arith, lt, gt))
same_first p q c d (inl lt) (inr (e, le)) = absurd (omega (arith, lt, e))
same_first p q c d (inr (e, le)) (inl gt) = absurd (omega (arith, gt, e))
same_first p q c d (inr (e, le)) (inr (f, ge)) = (e, omega (arith, le, ge))

same_faults : (f g : SyntaxFault) → f.code ≡ g.code → f.line ≡ g.line → f ≡ g
same_faults f g code line = ap (λ n. record { code = n; line = f.line }) code ∙ ap (λ n. record { code = g.code; line = n }) line

-- at most one fault is refused
pub one_fault : (bytes : List ℕ) (f g : SyntaxFault) → Refuses bytes f → Refuses bytes g → f ≡ g
one_fault bytes f g (inl (long, is)) (inl (long', is')) = is ∙ sym is'
one_fault bytes f g (inl (long, is)) (inr (short, x)) = absurd (omega (arith, long, short))
one_fault bytes f g (inr (short, x)) (inl (long, is)) = absurd (omega (arith, long, short))
one_fault bytes f g (inr (short, x)) (inr (short', y)) =
    let s = same_first x.place y.place f.code g.code (x.first y.place g.code y.stands) (y.first x.place f.code x.stands) in
    same_faults f g s.1 (x.line ∙ ap (λ n. 1 + newlines (take n bytes)) s.0 ∙ sym y.line)

-- no source is both read and refused
pub not_both : (bytes : List ℕ) (ss : List Statement) (f : SyntaxFault) → Reads bytes ss → Refuses bytes f → ⊥
not_both bytes ss f (short, lines, few, ts, ps, lexes, cut, is, opens) (inl (long, e)) = omega (arith, long, short)
not_both bytes ss f (short, lines, few, ts, ps, lexes, cut, is, opens) (inr (short', x)) = go x.stands
  where
    good : (p c : ℕ) → InTokens bytes p c → ⊥
    good = all_good bytes ts ps lexes cut (all_open_well [] ps [] cut.each (subst (OpenWell []) is opens)) (subst (λ (xs : List Statement). length xs ≤ most_statements) is few)

    go : Stands bytes x.place f.code → ⊥
    go (inl y) = good x.place f.code (inl (inl y))
    go (inr (inl y)) = good x.place f.code (inl (inr y))
    go (inr (inr (inl (code, at)))) = lines x.place at
    go (inr (inr (inr y))) = good x.place f.code (inr y)
