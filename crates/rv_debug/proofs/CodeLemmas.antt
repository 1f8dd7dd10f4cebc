-- The rows of one source among all.

use Rattle.std.proofs.Common.{◌≡◌, ◌∙◌, ℕ, zero, suc, ◌+◌, ◌<◌, ◌≤◌, ◌^◌, ◌==◌, min, max, nat_le, nat_lt, Bool, true, false, ◌&&◌, List, [], ◌∷◌, ◌++◌, length, get_or, take, drop, map, filter, cond, refl, ap, sym, subst, arith}
use Rattle.std.specs.List.{AllByRecursion}
use Rattle.std.proofs.lemmas.Bool.{and_parts, le-leb, ne_eqb}
use Rattle.std.proofs.lemmas.Bool.Decides.{nat_tests}
use Rattle.std.proofs.lemmas.List.{append-nil, drop_all, drop_more, map-append, take-append-drop, take_more}
use Rattle.std.proofs.lemmas.List.Elements.{filter-append}
use Rattle.rv_list_laws.proofs.EachLemmas.{each_get_or, each_more}
use Rattle.rv_list_laws.proofs.ElementsLemmas.{append_some_more}
use Rattle.rv_map_laws.specs.declared.map.Region.{Region}
use Rattle.rv_map_laws.specs.declared.map.Row.{Row}
use Rattle.rv_debug_laws.specs.declared.line_row.LineRow.{LineRow}
use Rattle.rv_debug_laws.specs.LineTable.{code_end}
use Rattle.rv_debug_laws.specs.Code.{are_by_file, code_of, code_extent, is_code_of, line_row, widened}

-- rows that stand by their files, behind one of a file
pub all_later : (from low : ℕ) (rows : List Row) → low < from → are_by_file from rows ≡ true → AllByRecursion (λ row. low < row.file) rows
all_later from low [] below h = tt
all_later from low (row ∷ rows) below h =
    let both = and_parts (nat_le from row.file) (are_by_file row.file rows) h in
    let here : low < row.file = higher from low row.file below both.0 in
    (here, all_later row.file low rows here both.1)
  where
    higher : (from low file : ℕ) → low < from → nat_le from file ≡ true → low < file
    higher from low file below e = grind (arith, nat_tests)

-- rows that do not begin with the first stand by their files too
weaker : (from to : ℕ) (rows : List Row) → to ≤ from → are_by_file from rows ≡ true → are_by_file to rows ≡ true
weaker from to [] below h = refl
weaker from to (row ∷ rows) below h =
    let both = and_parts (nat_le from row.file) (are_by_file row.file rows) h in
    ap (λ b. b && are_by_file row.file rows) (le-leb to row.file (lower from to row.file below both.0)) ∙ both.1
  where
    lower : (from to file : ℕ) → to ≤ from → nat_le from file ≡ true → to ≤ file
    lower from to file below e = grind (arith, nat_tests)

pub by_file_behind : (i : ℕ) (rows : List Row) → are_by_file 0 rows ≡ true → are_by_file 0 (drop i rows) ≡ true
by_file_behind i [] h = nothing i
  where
    nothing : (i : ℕ) → are_by_file 0 (drop i []) ≡ true
    nothing zero = refl
    nothing (suc i) = refl
by_file_behind zero (row ∷ rows) h = h
by_file_behind (suc i) (row ∷ rows) h =
    by_file_behind i rows (weaker row.file 0 rows (omega arith) (and_parts (nat_le 0 row.file) (are_by_file row.file rows) h).1)

-- no row of other files is kept
none_kept : (text : Region) (number : ℕ) (rows : List Row) → AllByRecursion (λ row. (row.file == number) ≡ false) rows →
    filter (is_code_of text number) rows ≡ []
none_kept text number [] h = refl
none_kept text number (row ∷ rows) h =
    let other : is_code_of text number row ≡ false =
    ap (λ b. b && nat_lt 0 row.instructions && nat_le text.start row.address && nat_le (row.address + row.bytes) text.end) h.0 in
    ap (λ b. cond b (row ∷ filter (is_code_of text number) rows) (filter (is_code_of text number) rows)) other
    ∙ none_kept text number rows h.1

lower_files : (number : ℕ) (rows : List Row) → AllByRecursion (λ row. row.file < number) rows →
    AllByRecursion (λ row. (row.file == number) ≡ false) rows
lower_files number [] h = tt
lower_files number (row ∷ rows) h =
    let under : row.file < number = h.0 in
    (ne_eqb row.file number (λ e. omega (arith, e, under)), lower_files number rows h.1)

higher_files : (number : ℕ) (rows : List Row) → AllByRecursion (λ row. number < row.file) rows → AllByRecursion (λ row. (row.file == number) ≡ false) rows
higher_files number [] h = tt
higher_files number (row ∷ rows) h =
    let over : number < row.file = h.0 in
    (ne_eqb row.file number (λ e. omega (arith, e, over)), higher_files number rows h.1)

-- the code of a source is that of its own rows
pub own_code : (text : Region) (number first count : ℕ) (rows rest : List Row) → rest ≡ drop first rows →
    AllByRecursion (λ row. row.file < number) (take first rows) →
    AllByRecursion (λ row. number < row.file) (drop count rest) →
    code_of text number (take count rest) ≡ code_of text number rows
own_code text number first count rows rest same earlier later =
    let keep : List Row → List Row = filter (is_code_of text number) in
    let own : List Row = take count rest in
    let others : List Row = drop count rest in
    let before : keep (take first rows) ≡ [] = none_kept text number (take first rows) (lower_files number (take first rows) earlier) in
    let behind : keep others ≡ [] = none_kept text number others (higher_files number others later) in
    let cut : rows ≡ take first rows ++ (own ++ others) =
    sym (take-append-drop first rows)
    ∙ ap (λ l. take first rows ++ l) (sym same ∙ sym (take-append-drop count rest)) in
    ap (map line_row)
    (sym (ap keep cut ∙ filter-append (is_code_of text number) (take first rows) (own ++ others)
    ∙ (λ i. before i ++ keep (own ++ others)) ∙ filter-append (is_code_of text number) own others
    ∙ ap (λ l. keep own ++ l) behind ∙ append-nil (keep own)))

-- code lies in the text
pub code_within : (text : Region) (number : ℕ) (rows : List Row) → AllByRecursion (λ row. row.address + row.bytes ≤ text.end) (code_of text number rows)
code_within text number [] = tt
code_within text number (row ∷ rows) = step (is_code_of text number row) refl (code_within text number rows)
  where
    inside : (text : Region) (number : ℕ) (row : Row) → is_code_of text number row ≡ true → row.address + row.bytes ≤ text.end
    inside text number row e = grind (arith, nat_tests)

    step : (b : Bool) → is_code_of text number row ≡ b →
        AllByRecursion (λ r. r.address + r.bytes ≤ text.end) (map line_row (filter (is_code_of text number) rows)) →
        AllByRecursion (λ r. r.address + r.bytes ≤ text.end) (map line_row (cond b (row ∷ filter (is_code_of text number) rows) (filter (is_code_of text number) rows)))
    step true e rest = (inside text number row e, rest)
    step false e rest = rest

-- ---- steps of loops

pub by_file_more : (file : ℕ) (rows : List Row) (i : ℕ) (d : Row) → i < length rows → file ≤ (get_or rows i d).file →
    are_by_file file (drop i rows) ≡ are_by_file (get_or rows i d).file (drop (i + 1) rows)
by_file_more file rows i d inside above =
    ap (are_by_file file) (drop_more rows i d inside)
    ∙ ap (λ b. b && are_by_file (get_or rows i d).file (drop (i + 1) rows)) (le-leb file (get_or rows i d).file above)

pub by_file_fails : (file : ℕ) (rows : List Row) (i : ℕ) (d : Row) → i < length rows → (get_or rows i d).file < file →
    are_by_file file (drop i rows) ≡ false
by_file_fails file rows i d inside below =
    ap (are_by_file file) (drop_more rows i d inside)
    ∙ ap (λ b. b && are_by_file (get_or rows i d).file (drop (i + 1) rows)) (not_above file (get_or rows i d).file below)
  where
    not_above : (a b : ℕ) → b < a → nat_le a b ≡ false
    not_above a b h = grind (arith, nat_tests)

pub by_file_done : (file : ℕ) (rows : List Row) (i : ℕ) → length rows ≤ i → are_by_file file (drop i rows) ≡ true
by_file_done file rows i past = ap (are_by_file file) (drop_all i rows past)

pub files_so_far : (file : ℕ) (rows : List Row) (i : ℕ) (d : Row) → i < length rows → (get_or rows i d).file ≤ file →
    AllByRecursion (λ row. row.file ≤ file) (take i rows) → AllByRecursion (λ row. row.file ≤ file) (take (i + 1) rows)
files_so_far file rows i d inside low so_far =
    let P : Row → Type 0 = λ row. row.file ≤ file in
    subst (AllByRecursion P) (sym (take_more rows i d inside)) (each_more P (take i rows) (get_or rows i d) so_far low)

pub files_later : (file : ℕ) (rows : List Row) (i : ℕ) (d : Row) → are_by_file 0 rows ≡ true → i < length rows → file < (get_or rows i d).file →
    AllByRecursion (λ row. file < row.file) (drop i rows)
files_later file rows i d sorted inside high =
    let P : Row → Type 0 = λ row. file < row.file in
    let here = drop_more rows i d inside in
    let x = get_or rows i d in
    let rest : are_by_file (get_or rows i d).file (drop (i + 1) rows) ≡ true =
    (and_parts (nat_le 0 x.file) (are_by_file x.file (drop (i + 1) rows)) (sym (ap (are_by_file 0) here) ∙ by_file_behind i rows sorted)).1 in
    subst (AllByRecursion P) (sym here) (high, all_later x.file file (drop (i + 1) rows) high rest)

pub none_later : (file : ℕ) (rows : List Row) (i : ℕ) → length rows ≤ i → AllByRecursion (λ row. file < row.file) (drop i rows)
none_later file rows i past =
    let P : Row → Type 0 = λ row. file < row.file in
    subst (AllByRecursion P) (sym (drop_all i rows past)) tt

-- a row more
pub code_more : (text : Region) (source : ℕ) (rows : List Row) (i : ℕ) (d : Row) (old new whole : List LineRow) → i < length rows →
    new ≡ old ++ code_of text source (get_or rows i d ∷ []) → old ++ code_of text source (drop i rows) ≡ whole →
    new ++ code_of text source (drop (i + 1) rows) ≡ whole
code_more text source rows i d old new whole inside added before =
    let x : Row = get_or rows i d in
    let rest : List Row = drop (i + 1) rows in
    let test : Row → Bool = is_code_of text source in
    let cut : code_of text source (drop i rows) ≡ code_of text source (get_or rows i d ∷ []) ++ code_of text source (drop (i + 1) rows) =
    ap (code_of text source) (drop_more rows i d inside)
    ∙ ap (map line_row) (filter-append test (x ∷ []) rest)
    ∙ map-append line_row (filter test (x ∷ [])) (filter test rest) in
    append_some_more old new (code_of text source (get_or rows i d ∷ [])) (code_of text source (drop (i + 1) rows)) (code_of text source (drop i rows)) whole added cut before

pub code_done : (text : Region) (source : ℕ) (rows : List Row) (i : ℕ) (old whole : List LineRow) → length rows ≤ i →
    old ++ code_of text source (drop i rows) ≡ whole → old ≡ whole
code_done text source rows i old whole past before =
    sym (append-nil old) ∙ ap (λ l. old ++ code_of text source l) (sym (drop_all i rows past)) ∙ before

-- addresses
pub extent_more : (extent : Region) (code : List LineRow) (i : ℕ) (d : LineRow) → i < length code →
    widened extent (drop i code)
    ≡ widened (record { start = min extent.start (get_or code i d).address; end = max extent.end (code_end (get_or code i d)) }) (drop (i + 1) code)
extent_more extent code i d inside = ap (widened extent) (drop_more code i d inside)

pub extent_begun : (code : List LineRow) (d : LineRow) → 0 < length code →
    code_extent code ≡ widened (record { start = (get_or code 0 d).address; end = code_end (get_or code 0 d) }) (drop 1 code)
extent_begun code d some = ap code_extent (drop_more code 0 d some)

pub extent_done : (extent : Region) (code : List LineRow) (i : ℕ) → length code ≤ i → widened extent (drop i code) ≡ extent
extent_done extent code i past = ap (widened extent) (drop_all i code past)

pub row_within : (top : ℕ) (code : List LineRow) (i : ℕ) → top < 2 ^ 64 → AllByRecursion (λ (row : LineRow). row.address + row.bytes ≤ top) code →
    (get_or code i (record { address = 0; bytes = 0; file = 0; line = 0 })).address + (get_or code i (record { address = 0; bytes = 0; file = 0; line = 0 })).bytes < 2 ^ 64
row_within top code i small all =
    let none : LineRow = record { address = 0; bytes = 0; file = 0; line = 0 } in
    let P : LineRow → Type 0 = λ row. row.address + row.bytes ≤ top in
    let here = each_get_or P code (record { address = 0; bytes = 0; file = 0; line = 0 }) all (omega arith) i in
    omega (arith, here, small)
