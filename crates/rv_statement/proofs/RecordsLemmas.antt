-- Records one by one, and the statements that they say.

use Rattle.std.proofs.Common.{◌≡◌, ℕ, ◌+◌, ◌<◌, ◌≤◌, List, [], ◌∷◌, ◌++◌, map, length, take, get_or, slice_get, Some, option_map, IsTrue, refl, sym, ◌∙◌, ap, ap₂, leb-true, le-leb, arith}
use Rattle.std.specs.List.{list_all}
use Rattle.std.proofs.lemmas.Bool.{and_from, and_parts}
use Rattle.std.proofs.lemmas.List.Folds.{list_all-append}
use Rattle.std.proofs.lemmas.List.{map-append, length-map, length_push, map_push, get_or_push, get_or_append_left, take_more}
use Rattle.std.proofs.lemmas.Option.{slice_get-map, get_or_from_slice_get, slice_get_within, slice_get_read}
use Rattle.rv_list_laws.proofs.TestsLemmas.{passes_at}
use Rattle.rv_statement_laws.specs.Statement as specs
use Rattle.rv_statement.specs.View.{statement_kind, statement_of}
use Rattle.rv_statement.specs.declared.statement.Statement.{Statement}
use Rattle.rv_statement.specs.declared.record.Words.{Words}
use Rattle.rv_statement.specs.declared.record.Words.TheVariants as words
use Rattle.rv_statement.specs.declared.record.Record.{Record}
use Rattle.rv_statement.specs.Records.{packed_kind, statement_in, recorded, least_whole, has_its_part, has_its_whole, IsPacked}

-- one more is kept whole
pub kept_more : (n m : ℕ) (rs : List Record) → m ≡ n + 1 → IsTrue (list_all (has_its_whole n) rs) → IsTrue (list_all (has_its_whole m) rs)
kept_more n m [] more h = refl
kept_more n m (r ∷ rs) more h =
    let p = and_parts _ _ h in
    let k = least_whole r.words in
    let least : k ≤ n = leb-true k n p.0 in
    and_from _ _ (le-leb k m (omega (arith, least, more))) (kept_more n m rs more p.1)

said_more : (source : List ℕ) (whole : List Statement) (s : Statement) (line : ℕ) (says : Words) → least_whole says ≤ length whole
    → statement_in source (whole ++ s ∷ []) line says ≡ statement_in source whole line says
said_more source whole s line (words.Whole index) h =
    ap (λ (l : List specs.Statement). get_or l index (record { line = line; kind = specs.Directs specs.Ignored })) (map-append statement_of whole (s ∷ []))
    ∙ get_or_append_left (map statement_of whole) (statement_of s ∷ []) _ index (omega (arith, h, length-map whole statement_of))
said_more source whole s line says h = refl

statements_more : (source : List ℕ) (whole : List Statement) (s : Statement) (rs : List Record) → IsTrue (list_all (has_its_whole (length whole)) rs)
    → map (recorded source (whole ++ s ∷ [])) rs ≡ map (recorded source whole) rs
statements_more source whole s [] h = refl
statements_more source whole s (r ∷ rs) h =
    let p = and_parts _ _ h in
    ap₂ (λ (x : specs.Statement) (xs : List specs.Statement). x ∷ xs) (said_more source whole s r.line r.words (leb-true (least_whole r.words) (length whole) p.0)) (statements_more source whole s rs p.1)

pub packed_says : (source : List ℕ) (whole : List Statement) (line : ℕ) (says : Words) → least_whole says ≡ 0 → statement_in source whole line says ≡ record { line = line; kind = packed_kind source says }
packed_says source whole line (words.Whole index) h = absurd (omega (arith, h))
packed_says source whole line says h = refl

whole_says : (source : List ℕ) (whole : List Statement) (s : Statement) (line index : ℕ) → index ≡ length whole → statement_in source (whole ++ s ∷ []) line (words.Whole index) ≡ statement_of s
whole_says source whole s line index at =
    ap (λ (l : List specs.Statement). get_or l index (record { line = line; kind = specs.Directs specs.Ignored })) (map-append statement_of whole (s ∷ []))
    ∙ get_or_push (map statement_of whole) (statement_of s) _ index (length-map whole statement_of ∙ sym at)

-- the statements with one more, which is kept whole
pub statements_whole : (source : List ℕ) (whole : List Statement) (s : Statement) (rs : List Record) (line index : ℕ) → index ≡ length whole → IsTrue (list_all (has_its_whole (length whole)) rs)
    → map (recorded source (whole ++ s ∷ [])) (rs ++ record { words = words.Whole index; line = line } ∷ []) ≡ map (recorded source whole) rs ++ statement_of s ∷ []
statements_whole source whole s rs line index at all =
    map_push (recorded source (whole ++ s ∷ [])) rs (record { words = words.Whole index; line = line })
    ∙ ap₂ (λ (xs : List specs.Statement) (x : specs.Statement). xs ++ x ∷ []) (statements_more source whole s rs all) (whole_says source whole s line index at)

pub kept_with_whole : (whole : List Statement) (s : Statement) (rs : List Record) (line index : ℕ) → index ≡ length whole → IsTrue (list_all (has_its_whole (length whole)) rs)
    → IsTrue (list_all (has_its_whole (length (whole ++ s ∷ []))) (rs ++ record { words = words.Whole index; line = line } ∷ []))
kept_with_whole whole s rs line index at all =
    let least : index + 1 ≤ length (whole ++ s ∷ []) = omega (arith, at, length_push whole s) in
    list_all-append (has_its_whole (length (whole ++ s ∷ []))) rs (record { words = words.Whole index; line = line } ∷ [])
    ∙ and_from _ _ (kept_more (length whole) (length (whole ++ s ∷ [])) rs (length_push whole s) all) (and_from _ _ (le-leb (index + 1) (length (whole ++ s ∷ [])) least) refl)

pub inside_with_whole : (size : ℕ) (rs : List Record) (line index : ℕ) → IsTrue (list_all (has_its_part size) rs) → IsTrue (list_all (has_its_part size) (rs ++ record { words = words.Whole index; line = line } ∷ []))
inside_with_whole size rs line index all = list_all-append (has_its_part size) rs (record { words = words.Whole index; line = line } ∷ []) ∙ and_from _ _ all (and_from _ _ (le-leb 0 size (omega arith)) refl)

-- the statement of a record at an index
pub recorded_at : (source : List ℕ) (whole : List Statement) (rs : List Record) (i : ℕ) (r : Record) (s : specs.Statement) → slice_get rs i ≡ Some r → recorded source whole r ≡ s
    → slice_get (map (recorded source whole) rs) i ≡ Some s
recorded_at source whole rs i r s at says = slice_get-map (recorded source whole) rs i ∙ ap (option_map (recorded source whole)) at ∙ ap (λ (x : specs.Statement). Some x) says

pub kept_says : (source : List ℕ) (whole : List Statement) (line : ℕ) (says : Words) (index : ℕ) (s : Statement) → says ≡ words.Whole index → slice_get whole index ≡ Some s
    → statement_in source whole line says ≡ statement_of s
kept_says source whole line says index s is at =
    ap (statement_in source whole line) is
    ∙ get_or_from_slice_get (map statement_of whole) index (statement_of s) _ (slice_get-map statement_of whole index ∙ ap (option_map statement_of) at)

-- the record that is read, and what it says of its index
pub record_at : (source : List ℕ) (whole : List Statement) (rs : List Record) (i : ℕ) (r : Record) → i < length (map (recorded source whole) rs) → r ≡ get_or rs i r → slice_get rs i ≡ Some r
record_at source whole rs i r within read = slice_get_read rs (length rs) i r refl (omega (arith, within, length-map rs (recorded source whole))) read

pub kept_at : (rs : List Record) (whole : List Statement) (i : ℕ) (r : Record) (index : ℕ) → slice_get rs i ≡ Some r → IsTrue (list_all (has_its_whole (length whole)) rs) → r.words ≡ words.Whole index
    → index < length whole
kept_at rs whole i r index here all is =
    let test = passes_at (has_its_whole (length whole)) rs i r all (slice_get_within rs i r here) in
    let same : get_or rs i r ≡ r = get_or_from_slice_get rs i r r here in
    let least : least_whole r.words ≤ length whole = leb-true (least_whole r.words) (length whole) (sym (ap (has_its_whole (length whole)) same) ∙ test) in
    let named : least_whole r.words ≡ index + 1 = ap least_whole is in
    omega (arith, least, named)

-- one record stands at an index
pub kept_same : (rs : List Record) (i : ℕ) (r found : Record) → slice_get rs i ≡ Some r → slice_get rs i ≡ Some found → least_whole found.words ≡ least_whole r.words
kept_same rs i r found here at =
    let same : Some found ≡ Some r = sym at ∙ here in
    let records : found ≡ r = cc in
    ap (λ (x : Record). least_whole x.words) records

pub packed_statement : (source : List ℕ) (whole : List Statement) (s : Statement) (says : Words) → IsPacked source says (statement_kind s.kind) → statement_in source whole s.line says ≡ statement_of s
packed_statement source whole s says packed = packed_says source whole s.line says packed.alone ∙ ap (λ (k : specs.StatementKind). record { line = s.line; kind = k }) packed.same

-- ---- statements that are all kept whole

-- one more record of them
pub whole_more : (whole : List Statement) (rs : List Record) (line index : ℕ) → index < length whole → map (recorded [] whole) rs ≡ take index (map statement_of whole)
    → map (recorded [] whole) (rs ++ record { words = words.Whole index; line = line } ∷ []) ≡ take (index + 1) (map statement_of whole)
whole_more whole rs line index within so =
    map_push (recorded [] whole) rs (record { words = words.Whole index; line = line })
    ∙ ap (λ (xs : List specs.Statement). xs ++ statement_in [] whole line (words.Whole index) ∷ []) so
    ∙ sym (take_more (map statement_of whole) index (record { line = line; kind = specs.Directs specs.Ignored }) (omega (arith, within, length-map whole statement_of)))

-- it names one of them
pub kept_one_more : (count : ℕ) (rs : List Record) (line index : ℕ) → index < count → IsTrue (list_all (has_its_whole count) rs)
    → IsTrue (list_all (has_its_whole count) (rs ++ record { words = words.Whole index; line = line } ∷ []))
kept_one_more count rs line index within all =
    let least : index + 1 ≤ count = omega (arith, within) in
    list_all-append (has_its_whole count) rs (record { words = words.Whole index; line = line } ∷ [])
    ∙ and_from _ _ all (and_from _ _ (le-leb (index + 1) count least) refl)
