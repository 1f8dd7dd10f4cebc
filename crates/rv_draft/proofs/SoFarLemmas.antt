-- One statement more of the code so far.

use Rattle.std.proofs.Common.{◌≡◌, ℕ, ◌+◌, ◌==◌, nat_lt, Bool, true, false, List, [], ◌∷◌, ◌++◌, length, Option, Some, None, if◌then◌else◌, refl, sym, ap, ◌∙◌, subst, append-nil, zero, suc, append_assoc, length-append, arith}
use Rattle.std.specs.Global.{Vec}
use Rattle.rv_list_laws.proofs.NumbersLemmas.{eq_self}
use Rattle.rv_expression_laws.specs.Codes.{limit, lowest}
use Rattle.rv_statement_laws.specs.Statement.{StatementKind, Label, Numbered, Instruction, Directs, Expression}
use Rattle.rv_expression_laws.specs.Values.{Value}
use Rattle.rv_unit_laws.specs.Faults.{StatementFault, at_line}
use Rattle.rv_unit_laws.specs.Tables.{Tables, longest_section}
use Rattle.rv_source_laws.specs.Located.{Located}
use Rattle.rv_instruction.specs.declared.encoded.Coded.{Coded}
use Rattle.rv_instruction.specs.Code.{coded_by, instructions_of}
use Rattle.rv_assemble_laws.specs.Coded.{IsCode}
use Rattle.rv_assemble_laws.specs.Refusals.{code_faults_at, code_fault_from, size_fault_from, else_fault, grown, HasCodeSize, AreCodeSizes}
use Rattle.rv_assemble_laws.specs.LaidStatements.{expression_value}
use Rattle.rv_draft.specs.Code.{bytes_in, code_bytes, code_size, sizes_of, bytes_of_sizes, bytes_of_codes, section_code, full_fault, full_at}
use Rattle.rv_draft.specs.Contents.{bytes_coded, statement_padding, padding_at, IsCoded}
use Rattle.rv_draft.specs.Coded.{AreCoded}
use Rattle.rv_draft.specs.Added.{IsAdded, IsCodeSoFar, IsWhole, IsLong}
use Rattle.rv_draft.specs.declared.code.Coder.{Coder}
use Rattle.rv_draft.specs.declared.item.CodeSize.{CodeSize}
use Rattle.rv_draft.proofs.EvensLemmas.{none_more, code_long}

else_assoc : (a b c : Option StatementFault) → else_fault (else_fault a b) c ≡ else_fault a (else_fault b c)
else_assoc (Some f) b c = refl
else_assoc None b c = refl

at_else : (line : ℕ) (code : Option ℕ) (other : Option StatementFault) → else_fault (at_line line code None) other ≡ at_line line code other
at_else line None other = refl
at_else line (Some code) other = refl

-- sections that have as many bytes have the same fault
sizes_alike : (f g : ℕ → ℕ) (ss : List Located) (sizes : List ℕ) → ((j : ℕ) → f j ≡ g j) → size_fault_from f ss sizes ≡ size_fault_from g ss sizes
sizes_alike f g [] sizes e = refl
sizes_alike f g (s ∷ ss) [] e = refl
sizes_alike f g (s ∷ ss) (size ∷ sizes) e =
    ap (λ n. at_line s.line (if nat_lt longest_section (n + size) then Some limit else None) (size_fault_from (grown f s.section size) ss sizes)) (e s.section)
    ∙ ap (λ r. at_line s.line (if nat_lt longest_section (g s.section + size) then Some limit else None) r)
    (sizes_alike (grown f s.section size) (grown g s.section size) ss sizes
    (λ j. ap (λ n. if j == s.section then n + size else n) (e j)))

grown_length : (b : Bool) (old more : List ℕ) → length (if b then old ++ more else old) ≡ (if b then length old + length more else length old)
grown_length true old more = length-append old more
grown_length false old more = refl

joined_by : (b : Bool) (old code rest : List ℕ) → (if b then old ++ code else old) ++ rest ≡ old ++ ((if b then code else []) ++ rest)
joined_by true old code rest = append_assoc old code rest
joined_by false old code rest = refl

pub next_code : (t : Tables) (all : List Located) (s : Located) (next : List Located) (old new : Coder) (wanted : ℕ) → IsCodeSoFar t all (s ∷ next) old
    → IsAdded old new s.section s.home.executable (code_faults_at t s) (λ e. expression_value t s e) s.options.rvc wanted (record { line = s.line; kind = s.kind }) → IsCodeSoFar t all next new
next_code t all s next old new wanted h a =
    let f = λ (j : ℕ). length (bytes_in old.sections.items j) in
    let g = λ (j : ℕ). length (bytes_in new.sections.items j) in
    let code = code_bytes (padding_at t s) a.coded in
    let size : ℕ = padding_at t s + length (bytes_coded a.coded) in
    let own : CodeSize = code_size (padding_at t s) a.coded in
    let alike : (j : ℕ) → g j ≡ (if j == s.section then f j + size else f j) =
    λ j. ap length (a.grows.1 j) ∙ grown_length (j == s.section) (bytes_in old.sections.items j) code ∙ ap (λ n. if j == s.section then f j + n else f j) (code_long t s a.coded) in
    let here : g s.section ≡ f s.section + size = alike s.section ∙ ap (λ b. if b then f s.section + size else f s.section) (eq_self s.section) in
    let behind : (more : List (List Coded)) → (h.codes ++ a.coded ∷ []) ++ more ≡ h.codes ++ a.coded ∷ more = λ more. append_assoc h.codes (a.coded ∷ []) more in
    record {
      faults =
          sym (ap (λ fs. at_line s.line (lowest fs) (code_fault_from t next)) a.sound)
          ∙ h.faults;
      codes = h.codes ++ a.coded ∷ [];
      counts = λ more.
          ap (λ l. l ++ sizes_of t next more) a.counts ∙ append_assoc old.sizes.items (own ∷ []) (sizes_of t next more)
          ∙ h.counts (a.coded ∷ more) ∙ ap (λ l. sizes_of t all l) (sym (behind more));
      coded = λ more rest. subst (λ l. AreCoded t all l) (sym (behind more)) (h.coded (a.coded ∷ more) (a.is, rest));
      long = λ more.
          let sizes = bytes_of_codes t next more in
          ap (λ x. else_fault x (size_fault_from g next sizes)) a.full
          ∙ else_assoc (full_fault old.full) (full_at s.line (g s.section)) (size_fault_from g next sizes)
          ∙ ap (λ x. else_fault (full_fault old.full) x)
          (at_else s.line (if nat_lt longest_section (g s.section) then Some limit else None) (size_fault_from g next sizes)
          ∙ ap (λ n. at_line s.line (if nat_lt longest_section n then Some limit else None) (size_fault_from g next sizes)) here
          ∙ ap (λ r. at_line s.line (if nat_lt longest_section (f s.section + size) then Some limit else None) r) (sizes_alike g (grown f s.section size) next sizes alike))
          ∙ h.long (a.coded ∷ more)
          ∙ ap (λ l. size_fault_from (λ j. 0) all (bytes_of_codes t all l)) (sym (behind more));
      bytes = λ more j.
          ap (λ x. x ++ section_code t j next more) (a.grows.1 j)
          ∙ joined_by (j == s.section) (bytes_in old.sections.items j) code (section_code t j next more)
          ∙ h.bytes (a.coded ∷ more) j ∙ ap (λ l. section_code t j all l) (sym (behind more));
    }

-- the first statement that is faulty as code is the next one
pub wrong_code : (t : Tables) (all : List Located) (s : Located) (next : List Located) (old : Coder) (code : ℕ) → IsCodeSoFar t all (s ∷ next) old → lowest (code_faults_at t s) ≡ Some code
    → code_fault_from t all ≡ Some (record { code = code; line = s.line })
wrong_code t all s next old code h e = sym h.faults ∙ ap (λ c. at_line s.line c (code_fault_from t next)) e

-- ---- after the last statement

else_none : (a : Option StatementFault) → else_fault a None ≡ a
else_none None = refl
else_none (Some f) = refl

whole_sizes : (t : Tables) (all : List Located) (c : Coder) (h : IsCodeSoFar t all [] c) → size_fault_from (λ j. 0) all (bytes_of_codes t all h.codes) ≡ full_fault c.full
whole_sizes t all c h =
    ap (λ l. size_fault_from (λ j. 0) all (bytes_of_codes t all l)) (sym (append-nil h.codes)) ∙ sym (h.long []) ∙ else_none (full_fault c.full)

whole_coded : (t : Tables) (all : List Located) (c : Coder) (h : IsCodeSoFar t all [] c) → AreCoded t all h.codes
whole_coded t all c h = subst (λ l. AreCoded t all l) (append-nil h.codes) (h.coded [] tt)

whole_counts : (t : Tables) (all : List Located) (c : Coder) (h : IsCodeSoFar t all [] c) → c.sizes.items ≡ sizes_of t all h.codes
whole_counts t all c h = sym (append-nil c.sizes.items) ∙ h.counts [] ∙ ap (λ l. sizes_of t all l) (append-nil h.codes)

told_codes : (t : Tables) (all : List Located) (c : Coder) (lengths : List ℕ) (h : IsCodeSoFar t all [] c) → bytes_of_sizes c.sizes.items ≡ lengths → bytes_of_codes t all h.codes ≡ lengths
told_codes t all c lengths h told = ap bytes_of_sizes (sym (whole_counts t all c h)) ∙ told

-- the code is whole
pub whole_code : (t : Tables) (all : List Located) (c : Coder) (lengths : List ℕ) → c.full ≡ None → bytes_of_sizes c.sizes.items ≡ lengths → IsCodeSoFar t all [] c
    → IsWhole t all lengths c.sections.items c.sizes.items
whole_code t all c lengths none told h = record {
  faults = sym h.faults;
  codes = h.codes;
  counts = whole_counts t all c h;
  coded = whole_coded t all c h;
  short = whole_sizes t all c h ∙ ap full_fault none;
  bytes = λ j. sym (append-nil (bytes_in c.sections.items j)) ∙ h.bytes [] j ∙ ap (λ l. section_code t j all l) (append-nil h.codes);
  told = told_codes t all c lengths h told;
}

-- the size of a statement's code
has_size : (b : Bool) (v : Expression → Value) (rvc : Bool) (says : StatementKind) (coded : List Coded) → IsCoded v rvc says coded → HasCodeSize b v rvc says (statement_padding b v says + length (bytes_coded coded))
has_size b v rvc (Instruction mnemonic operands) coded (asked, h) =
    (coded_by coded, (instructions_of coded, subst (λ n. IsCode v rvc mnemonic operands n (coded_by coded) (instructions_of coded)) (none_more (length (bytes_coded coded))) h.is))
has_size b v rvc (Label name) coded (asked, h) = ap (λ c. 0 + length (bytes_coded c)) h
has_size b v rvc (Numbered number) coded (asked, h) = ap (λ c. 0 + length (bytes_coded c)) h
has_size b v rvc (Directs directive) coded (asked, h) =
    let padding = statement_padding b v (Directs directive) in
    ap (λ c. padding + length (bytes_coded c)) h ∙ (let all : padding + 0 ≡ padding = omega arith in all)

have_sizes : (t : Tables) (ss : List Located) (codes : List (List Coded)) → AreCoded t ss codes → AreCodeSizes t ss (bytes_of_codes t ss codes)
have_sizes t [] [] h = tt
have_sizes t [] (coded ∷ codes) h = absurd h
have_sizes t (s ∷ ss) [] h = absurd h
have_sizes t (s ∷ ss) (coded ∷ codes) h = (has_size s.home.executable (λ e. expression_value t s e) s.options.rvc s.kind coded h.0, have_sizes t ss codes h.1)

-- each statement has a code, and each code a size
coded_count : (t : Tables) (ss : List Located) (codes : List (List Coded)) → AreCoded t ss codes → length (sizes_of t ss codes) ≡ length ss
coded_count t [] codes h = refl
coded_count t (s ∷ ss) [] h = absurd h
coded_count t (s ∷ ss) (coded ∷ codes) h = ap suc (coded_count t ss codes h.1)

pub sizes_count : (t : Tables) (all : List Located) (lengths : List ℕ) (code : List (Vec ℕ)) (sizes : List CodeSize) → IsWhole t all lengths code sizes → length sizes ≡ length all
sizes_count t all lengths code sizes h = ap length h.counts ∙ coded_count t all h.codes h.coded

-- no section is too long by these sizes
pub sizes_short : (t : Tables) (all : List Located) (lengths : List ℕ) (code : List (Vec ℕ)) (sizes : List CodeSize) → IsWhole t all lengths code sizes → size_fault_from (λ j. 0) all (bytes_of_sizes sizes) ≡ None
sizes_short t all lengths code sizes h = ap (λ l. size_fault_from (λ j. 0) all (bytes_of_sizes l)) h.counts ∙ h.short

-- a section is too long
pub long_code : (t : Tables) (all : List Located) (c : Coder) (lengths : List ℕ) (line : ℕ) → c.full ≡ Some line → bytes_of_sizes c.sizes.items ≡ lengths → IsCodeSoFar t all [] c
    → IsLong t all lengths (record { code = limit; line = line })
long_code t all c lengths line full told h = record {
  faults = sym h.faults;
  sizes = bytes_of_codes t all h.codes;
  are_sizes = have_sizes t all h.codes (whole_coded t all c h);
  told = told_codes t all c lengths h told;
  fault = whole_sizes t all c h ∙ ap full_fault full;
}

-- before the first statement there is none
pub begun : (t : Tables) (all : List Located) (c : Coder) → full_fault c.full ≡ None → c.sizes.items ≡ [] → ((j : ℕ) → bytes_in c.sections.items j ≡ []) → IsCodeSoFar t all all c
begun t all c f none e = record {
  faults = refl;
  codes = [];
  counts = λ more. ap (λ l. l ++ sizes_of t all more) none;
  coded = λ more h. h;
  long = λ more.
      ap (λ x. else_fault x (size_fault_from (λ j. length (bytes_in c.sections.items j)) all (bytes_of_codes t all more))) f
      ∙ sizes_alike (λ j. length (bytes_in c.sections.items j)) (λ j. 0) all (bytes_of_codes t all more) (λ j. ap length (e j));
  bytes = λ more j. ap (λ x. x ++ section_code t j all more) (e j);
}

-- an empty section after others
pub empty_behind : (xs : List (Vec ℕ)) (x : Vec ℕ) (j : ℕ) → x.items ≡ [] → ((i : ℕ) → bytes_in xs i ≡ []) → bytes_in (xs ++ x ∷ []) j ≡ []
empty_behind [] x zero e h = e
empty_behind [] x (suc j) e h = refl
empty_behind (y ∷ ys) x zero e h = h 0
empty_behind (y ∷ ys) x (suc j) e h = empty_behind ys x j e (λ i. h (suc i))
