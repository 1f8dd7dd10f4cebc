-- The symbols of a raw listing's object: one of them is for all files, the entry, at an even place of its code.

use Rattle.std.proofs.Common.{◌≡◌, ℕ, suc, ◌+◌, ◌%◌, ◌≤◌, Bool, true, false, not, List, [], ◌∷◌, ◌++◌, map, append-nil, Some, refl, sym, ◌∙◌, ap, arith}
use Rattle.std.specs.Prelude.{◌&&◌, if◌then◌else◌, filter, flat_map, bytes_eq}
use Rattle.std.specs.List.{AllByRecursion, find, list_any}
use Rattle.rv_list_laws.proofs.FilterLemmas.{each_filter}
use Rattle.rv_list_laws.proofs.EachLemmas.{each_append}
use Rattle.rv_list_laws.proofs.TruthLemmas.{and_false}
use Rattle.rv_statement_laws.specs.declared.directive.Binding.TheVariants as source
use Rattle.rv_statement_laws.specs.declared.directive.Choice.TheVariants.{Norvc, Norelax}
use Rattle.rv_statement_laws.specs.declared.mnemonic.Mnemonic.TheVariants as words
use Rattle.rv_statement_laws.specs.Statement.{StatementKind, Label, Numbered, Instruction, Directs, Chooses, Binds}
use Rattle.rv_unit_laws.specs.Bindings as source_bindings
use Rattle.rv_unit_laws.specs.Bindings.{Bindings}
use Rattle.rv_unit_laws.specs.Tables.{Tables, Labelled, longest_section}
use Rattle.rv_source_laws.specs.Exports.{defined_name, names_where}
use Rattle.rv_listing_laws.specs.declared.code.Code.{Code}
use Rattle.rv_raw_theorems.specs.Statements.{code_statement, raw_statements}
use Rattle.rv_object_laws.specs.declared.symbol.Binding.TheVariants.{Local, Global}
use Rattle.rv_object_laws.specs.declared.symbol.Definition.{Definition}
use Rattle.rv_object_laws.specs.declared.symbol.Definition.TheVariants.{Undefined, InSection}
use Rattle.rv_object_laws.specs.Bindings.{is_global, is_weak}
use Rattle.rv_object_laws.specs.Object.{Symbol, Object}
use Rattle.rv_link_laws.specs.Names.{Export, is_defined, exports_in, exports_where, chosen, global_names}
use Rattle.rv_assemble_laws.specs.LaidStatements.{LaidStatement, Tile, end_of}
use Rattle.rv_assemble_laws.specs.Symbols.{SymbolUse, outer_binding, statement_definition, local_symbol, shared_symbol, is_absolute, references, is_meant, are_together, unnamed_symbols, named_symbols, local_symbols, exports_of, exports, undefined_symbols, missing_name, distinct_from}
use Rattle.rv_raw_theorems.proofs.FieldsLemmas.{end_above}
use Rattle.rv_raw_theorems.proofs.LengthsLemmas.{kind_size}
use Rattle.rv_raw_theorems.proofs.ObjectsLemmas.{IsRaw}
use Rattle.rv_raw_theorems.proofs.StatementsLemmas.{code_instruction, start_name, raw_options, table, IsPlain}

-- ---- even places

even_size : (kind : StatementKind) → kind_size kind % 2 ≡ 0
even_size (Instruction (words.Parcel operation) os) = refl
even_size (Instruction m os) = refl
even_size (Label name) = refl
even_size (Numbered number) = refl
even_size (Directs d) = refl

pub record IsStanding (z : LaidStatement) : Type 0 where
  pub section : z.located.section ≡ 0
  pub even : z.offset % 2 ≡ 0
  pub low : z.offset ≤ longest_section

standing : (t : Tables) (q : ℕ) (zs : List LaidStatement) → q % 2 ≡ 0 → Tile t q zs → end_of q zs ≤ longest_section → AllByRecursion (λ (z : LaidStatement). IsPlain z.located) zs → AllByRecursion (λ (z : LaidStatement). z.bytes ≡ kind_size z.located.kind) zs
    → AllByRecursion IsStanding zs
standing t q [] even tile low p s = tt
standing t q (z ∷ zs) even (off, bytes, tile) low (plain, ps) (size, sizes) =
    let above = end_above (q + z.bytes) zs in
    let e = even_size z.located.kind in (
      record { section = plain.section; even = ap (λ n. n % 2) off ∙ even; low = omega (arith, off, above, low) },
      standing t (q + z.bytes) zs (omega (arith, even, e, size)) tile low ps sizes,
    )

-- ---- local symbols

abbrev IsLocal : Symbol → Type 0
IsLocal x = x.binding ≡ Local

module _ (t : Tables) (laid : List LaidStatement) where
  unnamed_local : (rs : List SymbolUse) (before : List LaidStatement) (s : LaidStatement) → AllByRecursion IsLocal (unnamed_symbols t rs before s)
  unnamed_local rs before s = by (is_meant t rs s && not (list_any (λ q. are_together s q && is_meant t rs q) before))
    where
      by : (b : Bool) → AllByRecursion IsLocal (if b then local_symbol [] (InSection s.located.section s.offset) ∷ [] else [])
      by true = (refl, tt)
      by false = tt

  mapped_local : (d : Definition) (names : List (List ℕ)) → AllByRecursion IsLocal (map (λ name. local_symbol name d) names)
  mapped_local d [] = tt
  mapped_local d (name ∷ names) = (refl, mapped_local d names)

  named_local : (s : LaidStatement) → AllByRecursion IsLocal (named_symbols t laid s)
  named_local s =
      each_filter IsLocal (λ x. not (is_absolute x)) (map (λ name. local_symbol name (statement_definition t laid s s.located.kind)) (names_where (λ b. not (source_bindings.is_shared b)) t s.located))
      (mapped_local (statement_definition t laid s s.located.kind) (names_where (λ b. not (source_bindings.is_shared b)) t s.located))

  locals : (before rest : List LaidStatement) → AllByRecursion IsLocal (local_symbols t laid before rest)
  locals before [] = tt
  locals before (s ∷ rest) =
      each_append IsLocal (unnamed_symbols t (references t laid) before s) (named_symbols t laid s ++ local_symbols t laid (before ++ s ∷ []) rest) (unnamed_local (references t laid) before s)
      (each_append IsLocal (named_symbols t laid s) (local_symbols t laid (before ++ s ∷ []) rest) (named_local s) (locals (before ++ s ∷ []) rest))

-- ---- what they export

module _ (file : ℕ) (o : Object) where
  past_locals : (index : ℕ) (xs ys : List Symbol) → AllByRecursion IsLocal xs → (j : ℕ) × (exports_in is_global file o index (xs ++ ys) ≡ exports_in is_global file o j ys)
  past_locals index [] ys h = (index, refl)
  past_locals index (x ∷ xs) ys (one, h) =
      let (j, e) = past_locals (suc index) xs ys h in (
        j,
        ap (λ b. if is_global b && is_defined x.definition then record { file = file; object = o; index = index; symbol = x } ∷ exports_in is_global file o (suc index) (xs ++ ys) else exports_in is_global file o (suc index) (xs ++ ys)) one ∙ e,
      )

  of_undefined : (index : ℕ) (t : Tables) (names : List (List ℕ)) → exports_in is_global file o index (map (λ name. shared_symbol t name Undefined) names) ≡ []
  of_undefined index t [] = refl
  of_undefined index t (name ∷ names) =
      ap (λ b. if b then record { file = file; object = o; index = index; symbol = shared_symbol t name Undefined } ∷ exports_in is_global file o (suc index) (map (λ name. shared_symbol t name Undefined) names)
      else exports_in is_global file o (suc index) (map (λ name. shared_symbol t name Undefined) names))
      (and_false (is_global (shared_symbol t name Undefined).binding))
      ∙ of_undefined (suc index) t names

-- ---- the names of statements

module _ (labels : List Labelled) (b : Bindings) (global : b start_name ≡ source.Global) (laid : List LaidStatement) where
  abbrev t : Tables
  t = table labels raw_options b

  abbrev said : List LaidStatement → List Symbol
  said zs = flat_map (exports_of (table labels raw_options b) laid) zs

  abbrev kinds_of : List LaidStatement → List StatementKind
  kinds_of zs = map (λ (z : LaidStatement). z.located.kind) zs

  -- what defines no name
  nothing : (z : LaidStatement) (kind : StatementKind) → z.located.kind ≡ kind → defined_name t z.located.ordinal kind ≡ [] → exports_of t laid z ≡ []
  nothing z kind e none =
      ap (λ l. map (λ name. shared_symbol t name (statement_definition t laid z z.located.kind)) (filter (λ name. source_bindings.is_shared (t.bindings name)) l)) (ap (defined_name t z.located.ordinal) e ∙ none)

  code_nothing : (ordinal : ℕ) (c : Code) → defined_name t ordinal (code_statement c) ≡ []
  code_nothing ordinal c = ap (defined_name t ordinal) (code_instruction c).is

  pub record IsPast (zs : List LaidStatement) (rest : List StatementKind) : Type 0 where
    pub left : List LaidStatement
    pub kinds : kinds_of left ≡ rest
    pub same : said zs ≡ said left
    pub stand : AllByRecursion IsStanding left

  past_one : (k : StatementKind) (rest : List StatementKind) (zs : List LaidStatement) → ((n : ℕ) → defined_name t n k ≡ []) → kinds_of zs ≡ k ∷ rest → AllByRecursion IsStanding zs → IsPast zs rest
  past_one k rest [] none e h = absurd (cc)
  past_one k rest (z ∷ zs) none e (one, h) =
      let first : z.located.kind ≡ k = cc in
      let more : kinds_of zs ≡ rest = cc in
      record { left = zs; kinds = more; same = ap (λ l. l ++ said zs) (nothing z k first (none z.located.ordinal)); stand = h }

  past_codes : (cs : List Code) (rest : List StatementKind) (zs : List LaidStatement) → kinds_of zs ≡ map code_statement cs ++ rest → AllByRecursion IsStanding zs → IsPast zs rest
  past_codes [] rest zs e h = record { left = zs; kinds = e; same = refl; stand = h }
  past_codes (c ∷ cs) rest zs e h =
      let p = past_one (code_statement c) (map code_statement cs ++ rest) zs (λ n. code_nothing n c) e h in
      let q = past_codes cs rest p.left p.kinds p.stand in
      record { left = q.left; kinds = q.kinds; same = p.same ∙ q.same; stand = q.stand }

  abbrev entry_symbol : ℕ → Symbol
  entry_symbol offset = record { name = start_name; binding = Global; definition = InSection 0 offset }

  of_label : (z : LaidStatement) → z.located.kind ≡ Label start_name → z.located.section ≡ 0 → exports_of t laid z ≡ entry_symbol z.offset ∷ []
  of_label z e section =
      ap (λ k. map (λ name. shared_symbol t name (statement_definition t laid z k)) (filter (λ name. source_bindings.is_shared (t.bindings name)) (defined_name t z.located.ordinal k))) e
      ∙ ap (λ g. map (λ name. shared_symbol t name (InSection z.located.section z.offset)) (if source_bindings.is_shared g then start_name ∷ [] else [])) global
      ∙ ap (λ g. record { name = start_name; binding = outer_binding g; definition = InSection z.located.section z.offset } ∷ []) global
      ∙ ap (λ n. record { name = start_name; binding = Global; definition = InSection n z.offset } ∷ []) section

  pub record IsNamedOnce (zs : List LaidStatement) : Type 0 where
    pub offset : ℕ
    pub even : offset % 2 ≡ 0
    pub low : offset ≤ longest_section
    pub once : said zs ≡ entry_symbol offset ∷ []

  none_left : (zs : List LaidStatement) → kinds_of zs ≡ [] → said zs ≡ []
  none_left [] e = refl
  none_left (z ∷ zs) e = absurd (cc)

  at_label : (zs : List LaidStatement) (after : List Code) → kinds_of zs ≡ Label start_name ∷ (map code_statement after ++ []) → AllByRecursion IsStanding zs → IsNamedOnce zs
  at_label [] after e h = absurd (cc)
  at_label (z ∷ zs) after e (one, h) =
      let first : z.located.kind ≡ Label start_name = cc in
      let more : kinds_of zs ≡ map code_statement after ++ [] = cc in
      let p = past_codes after [] zs more h in
      record {
        offset = z.offset;
        even = one.even;
        low = one.low;
        once = ap (λ l. l ++ said zs) (of_label z first one.section) ∙ ap (λ l. entry_symbol z.offset ∷ l) (p.same ∙ none_left p.left p.kinds);
      }

  -- the lines before the code say no name
  past_head : (ks : List StatementKind) (zs : List LaidStatement) → kinds_of zs ≡ Directs (Chooses Norvc) ∷ Directs (Chooses Norelax) ∷ Directs (Binds source.Global (start_name ∷ [])) ∷ ks → AllByRecursion IsStanding zs → IsPast zs ks
  past_head ks zs e h =
      let p = past_one (Directs (Chooses Norvc)) (Directs (Chooses Norelax) ∷ Directs (Binds source.Global (start_name ∷ [])) ∷ ks) zs (λ n. refl) e h in
      let q = past_one (Directs (Chooses Norelax)) (Directs (Binds source.Global (start_name ∷ [])) ∷ ks) p.left (λ n. refl) p.kinds p.stand in
      let r = past_one (Directs (Binds source.Global (start_name ∷ []))) ks q.left (λ n. refl) q.kinds q.stand in
      record { left = r.left; kinds = r.kinds; same = trans (said zs) (said p.left) (said r.left) p.same (trans (said p.left) (said q.left) (said r.left) q.same r.same); stand = r.stand }
    where
      trans : (a b c : List Symbol) → a ≡ b → b ≡ c → a ≡ c
      trans a b c e f = e ∙ f

  -- another list with the same names
  once_more : (zs ys : List LaidStatement) → said zs ≡ said ys → IsNamedOnce ys → IsNamedOnce zs
  once_more zs ys e l = record { offset = l.offset; even = l.even; low = l.low; once = e ∙ l.once }

  pub named_once : (before after : List Code) (zs : List LaidStatement) → kinds_of zs ≡ raw_statements before after → AllByRecursion IsStanding zs → IsNamedOnce zs
  named_once before after zs e h =
      let p = past_head (map code_statement before ++ Label start_name ∷ map code_statement after) zs e h in
      let s = past_codes before (Label start_name ∷ map code_statement after) p.left p.kinds p.stand in
      once_more zs p.left p.same
      (once_more p.left s.left s.same (at_label s.left after (s.kinds ∙ ap (λ ks. Label start_name ∷ ks) (sym (append-nil (map code_statement after)))) s.stand))

-- ---- the object's

abbrev pub entry_at : Object → ℕ → ℕ → Export
entry_at o index offset = record {
  file = 1;
  object = o;
  index = index;
  symbol = record { name = start_name; binding = Global; definition = InSection 0 offset };
}

pub record IsEntered (o : Object) : Type 0 where
  pub index : ℕ
  pub offset : ℕ
  pub even : offset % 2 ≡ 0
  pub low : offset ≤ longest_section
  pub means : chosen (o ∷ []) start_name ≡ Some (entry_at o index offset)
  pub names : global_names (o ∷ []) ≡ start_name ∷ []

name_is : bytes_eq start_name start_name ≡ true
name_is = refl

pub entered : (labels : List Labelled) (b : Bindings) → b start_name ≡ source.Global → (o : Object) (before after : List Code) → IsRaw labels b (raw_statements before after) o → IsEntered o
entered labels b global o before after h =
    let t = table labels raw_options b in
    let stand = standing t 0 h.laid refl h.is.tile (h.is.short refl) h.plain h.sized in
    let once = named_once labels b global h.laid before after h.laid h.kinds stand in
    let s = entry_symbol labels b global h.laid once.offset in
    let front = local_symbols t h.laid [] h.laid in
    let back = undefined_symbols t h.laid in
    let (j, past) = past_locals 1 o 0 front (exports t h.laid ++ back) (locals t h.laid [] h.laid) in
    let names = distinct_from [] (flat_map (λ (r : SymbolUse). missing_name t r.ordinal r.symbol) (references t h.laid)) in
    let all : exports_in is_global 1 o 0 o.symbols ≡ entry_at o j once.offset ∷ [] =
    ap (exports_in is_global 1 o 0) h.symbols ∙ past ∙ ap (λ l. exports_in is_global 1 o j (l ++ back)) once.once ∙ ap (λ l. entry_at o j once.offset ∷ l) (of_undefined 1 o (suc j) t names) in
    let whole : exports_where is_global (o ∷ []) ≡ entry_at o j once.offset ∷ [] = ap (λ l. l ++ []) all in
    record {
      index = j;
      offset = once.offset;
      even = once.even;
      low = once.low;
      means = ap (λ l. find (λ e. bytes_eq e.symbol.name start_name) (l ++ exports_where is_weak (o ∷ []))) whole ∙ ap (λ b. if b then Some (entry_at o j once.offset) else find (λ (e : Export). bytes_eq e.symbol.name start_name) (exports_where is_weak (o ∷ []))) name_is;
      names = ap (λ l. map (λ (e : Export). e.symbol.name) l) whole;
    }
