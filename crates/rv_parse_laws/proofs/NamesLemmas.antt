-- Each base instruction has one word, which its name of rv_isa is: row by row, by computing.

use Rattle.std.proofs.Common.{◌≡◌, ℕ, Bool, true, false, ◌==◌, ◌&&◌, cond, List, [], ◌∷◌, ◌++◌, length, take, drop, Option, Some, None, option_map, refl, sym, ap, ap₂, subst, ◌∙◌, codes}
use Rattle.std.specs.List.{list_all}
use Rattle.std.specs.Option.{option_or}
use Rattle.std.specs.Str.{bytes_eq}
use Rattle.std.proofs.lemmas.Bool.{and_parts}
use Rattle.std.proofs.lemmas.List.{append_assoc, take-append-drop}
use Rattle.std.proofs.lemmas.Option.{same_Some}
use Rattle.std.proofs.lemmas.Slice.Eq.{bytes_eq-Decides}
use Rattle.rv_isa.specs.declared.instruction.Format.{Format}
use Rattle.rv_isa.specs.declared.instruction.Format.TheVariants as formats
use Rattle.rv_isa.specs.declared.operation.AtomicForm.{AtomicForm}
use Rattle.rv_isa.specs.Operations.{register_name, immediate_name, shift_name, upper_name, load_name, store_name, branch_name, atomic_name}
use Rattle.rv_isa.specs.declared.operation.RegisterOperation.{RegisterOperation}
use Rattle.rv_isa.specs.declared.operation.RegisterOperation.TheVariants.{Add, Sub, Sll, Slt, Sltu, Xor, Srl, Sra, Or, And, Addw, Subw, Sllw, Srlw, Sraw, Mul, Mulh, Mulhsu, Mulhu, Div, Divu, Rem, Remu, Mulw, Divw, Divuw, Remw, Remuw}
use Rattle.rv_isa.specs.declared.operation.ImmediateOperation.{ImmediateOperation}
use Rattle.rv_isa.specs.declared.operation.ImmediateOperation.TheVariants.{Addi, Slti, Sltiu, Xori, Ori, Andi, Addiw}
use Rattle.rv_isa.specs.declared.operation.ShiftOperation.{ShiftOperation}
use Rattle.rv_isa.specs.declared.operation.ShiftOperation.TheVariants.{Slli, Srli, Srai, Slliw, Srliw, Sraiw}
use Rattle.rv_isa.specs.declared.operation.UpperOperation.{UpperOperation}
use Rattle.rv_isa.specs.declared.operation.UpperOperation.TheVariants.{Lui, Auipc}
use Rattle.rv_isa.specs.declared.operation.LoadOperation.{LoadOperation}
use Rattle.rv_isa.specs.declared.operation.LoadOperation.TheVariants.{Lb, Lh, Lw, Ld, Lbu, Lhu, Lwu}
use Rattle.rv_isa.specs.declared.operation.StoreOperation.{StoreOperation}
use Rattle.rv_isa.specs.declared.operation.StoreOperation.TheVariants.{Sb, Sh, Sw, Sd}
use Rattle.rv_isa.specs.declared.operation.BranchOperation.{BranchOperation}
use Rattle.rv_isa.specs.declared.operation.BranchOperation.TheVariants.{Beq, Bne, Blt, Bge, Bltu, Bgeu}
use Rattle.rv_isa.specs.declared.operation.AtomicOperation.{AtomicOperation}
use Rattle.rv_isa.specs.declared.operation.AtomicOperation.TheVariants.{Sc, Amoswap, Amoadd, Amoxor, Amoand, Amoor, Amomin, Amomax, Amominu, Amomaxu}
use Rattle.rv_isa.specs.Mnemonics.{ordering}
use Rattle.rv_statement_laws.specs.declared.mnemonic.Mnemonic.{Mnemonic}
use Rattle.rv_statement_laws.specs.declared.mnemonic.Mnemonic.TheVariants as mnemonics
use Rattle.rv_parse_laws.specs.Words.{form_with, named_in, instruction_words, atomic_operations, atomic_forms, form_behind, atomic_in, mnemonic_named}
use Rattle.rv_parse_laws.specs.Names.{word_of, mnemonic_of}

-- ---- the word of each instruction means its mnemonic

abbrev Means : Format → Type 0
Means f = mnemonic_named (word_of f) ≡ Some (mnemonic_of f)

registers : (o : RegisterOperation) → mnemonic_named (register_name o) ≡ Some (mnemonics.Registers o)
unfolding mnemonic_named instruction_words
registers Add = refl
registers Sub = refl
registers Sll = refl
registers Slt = refl
registers Sltu = refl
registers Xor = refl
registers Srl = refl
registers Sra = refl
registers Or = refl
registers And = refl
registers Addw = refl
registers Subw = refl
registers Sllw = refl
registers Srlw = refl
registers Sraw = refl
registers Mul = refl
registers Mulh = refl
registers Mulhsu = refl
registers Mulhu = refl
registers Div = refl
registers Divu = refl
registers Rem = refl
registers Remu = refl
registers Mulw = refl
registers Divw = refl
registers Divuw = refl
registers Remw = refl
registers Remuw = refl

immediates : (o : ImmediateOperation) → mnemonic_named (immediate_name o) ≡ Some (mnemonics.Immediate o)
unfolding mnemonic_named instruction_words
immediates Addi = refl
immediates Slti = refl
immediates Sltiu = refl
immediates Xori = refl
immediates Ori = refl
immediates Andi = refl
immediates Addiw = refl

shifts : (o : ShiftOperation) → mnemonic_named (shift_name o) ≡ Some (mnemonics.Shift o)
unfolding mnemonic_named instruction_words
shifts Slli = refl
shifts Srli = refl
shifts Srai = refl
shifts Slliw = refl
shifts Srliw = refl
shifts Sraiw = refl

uppers : (o : UpperOperation) → mnemonic_named (upper_name o) ≡ Some (mnemonics.Upper o)
unfolding mnemonic_named instruction_words
uppers Lui = refl
uppers Auipc = refl

loads : (o : LoadOperation) → mnemonic_named (load_name o) ≡ Some (mnemonics.Load o)
unfolding mnemonic_named instruction_words
loads Lb = refl
loads Lh = refl
loads Lw = refl
loads Ld = refl
loads Lbu = refl
loads Lhu = refl
loads Lwu = refl

stores : (o : StoreOperation) → mnemonic_named (store_name o) ≡ Some (mnemonics.Store o)
unfolding mnemonic_named instruction_words
stores Sb = refl
stores Sh = refl
stores Sw = refl
stores Sd = refl

branchs : (o : BranchOperation) → mnemonic_named (branch_name o) ≡ Some (mnemonics.Branch o)
unfolding mnemonic_named instruction_words
branchs Beq = refl
branchs Bne = refl
branchs Blt = refl
branchs Bge = refl
branchs Bltu = refl
branchs Bgeu = refl

abbrev EachForm : (Bool → Bool → Bool → Type 0) → Type 0
EachForm P = P false false false × P false true false × P false false true × P false true true × P true false false × P true true false × P true false true × P true true true

by_form : (P : Bool → Bool → Bool → Type 0) → EachForm P → (double acquire release : Bool) → P double acquire release
by_form P each false false false = each.0
by_form P each false true false = each.1
by_form P each false false true = each.2
by_form P each false true true = each.3
by_form P each true false false = each.4
by_form P each true true false = each.5
by_form P each true false true = each.6
by_form P each true true true = each.7

abbrev AtomicMeans : AtomicOperation → Bool → Bool → Bool → Type 0
AtomicMeans o double acquire release = mnemonic_named (atomic_name o double ++ ordering acquire release) ≡ Some (mnemonics.Atomic o (form_with double acquire release))

atomics : (o : AtomicOperation) → EachForm (AtomicMeans o)
unfolding mnemonic_named instruction_words atomic_operations atomic_forms
atomics Sc = (refl, refl, refl, refl, refl, refl, refl, refl)
atomics Amoswap = (refl, refl, refl, refl, refl, refl, refl, refl)
atomics Amoadd = (refl, refl, refl, refl, refl, refl, refl, refl)
atomics Amoxor = (refl, refl, refl, refl, refl, refl, refl, refl)
atomics Amoand = (refl, refl, refl, refl, refl, refl, refl, refl)
atomics Amoor = (refl, refl, refl, refl, refl, refl, refl, refl)
atomics Amomin = (refl, refl, refl, refl, refl, refl, refl, refl)
atomics Amomax = (refl, refl, refl, refl, refl, refl, refl, refl)
atomics Amominu = (refl, refl, refl, refl, refl, refl, refl, refl)
atomics Amomaxu = (refl, refl, refl, refl, refl, refl, refl, refl)

abbrev lr_name : Bool → List ℕ
lr_name false = codes "lr.w"
lr_name true = codes "lr.d"

abbrev ReservedMeans : Bool → Bool → Bool → Type 0
ReservedMeans double acquire release = mnemonic_named (lr_name double ++ ordering acquire release) ≡ Some (mnemonics.LoadReserved (form_with double acquire release))

reserved : EachForm ReservedMeans
unfolding mnemonic_named instruction_words atomic_operations atomic_forms
reserved = (refl, refl, refl, refl, refl, refl, refl, refl)

pub means : (f : Format) → Means f
unfolding mnemonic_named instruction_words
means (formats.Registers o x) = registers o
means (formats.Immediate o x) = immediates o
means (formats.Shift o x) = shifts o
means (formats.Upper o x) = uppers o
means (formats.Load o x) = loads o
means (formats.Store o x) = stores o
means (formats.Branch o x) = branchs o
means (formats.Jal x) = refl
means (formats.Jalr x) = refl
means (formats.LoadReserved false x) = by_form ReservedMeans reserved false x.acquire x.release
means (formats.LoadReserved true x) = by_form ReservedMeans reserved true x.acquire x.release
means (formats.Atomic o double x) = by_form (AtomicMeans o) (atomics o) double x.acquire x.release
means (formats.Fence x) = fence (x.fm == 8)
  where
    fence : (tso : Bool) → mnemonic_named (cond tso (codes "fence" ++ codes ".tso") (codes "fence")) ≡ Some (cond tso mnemonics.FenceTso mnemonics.Fence)
    fence true = refl
    fence false = refl
means formats.Ecall = refl
means formats.Ebreak = refl

-- two instructions of one word have one mnemonic
pub apart : (f g : Format) → word_of f ≡ word_of g → mnemonic_of f ≡ mnemonic_of g
apart f g e = same_Some (mnemonic_of f) (mnemonic_of g) (sym (means f) ∙ ap mnemonic_named e ∙ means g)

-- ---- no other word does

abbrev width : Bool → List ℕ
width double = cond double (codes ".d") (codes ".w")

abbrev behind_name : AtomicForm → List ℕ
behind_name form = width form.double ++ ordering form.acquire form.release

-- a word of this mnemonic is the name of its base instruction, if it has one
abbrev is_right : List ℕ → Mnemonic → Bool
is_right word (mnemonics.Registers o) = bytes_eq (register_name o) word
is_right word (mnemonics.Immediate o) = bytes_eq (immediate_name o) word
is_right word (mnemonics.Shift o) = bytes_eq (shift_name o) word
is_right word (mnemonics.Upper o) = bytes_eq (upper_name o) word
is_right word (mnemonics.Load o) = bytes_eq (load_name o) word
is_right word (mnemonics.Store o) = bytes_eq (store_name o) word
is_right word (mnemonics.Branch o) = bytes_eq (branch_name o) word
is_right word mnemonics.Jal = bytes_eq (codes "jal") word
is_right word mnemonics.Jalr = bytes_eq (codes "jalr") word
is_right word (mnemonics.LoadReserved form) = bytes_eq (codes "lr" ++ behind_name form) word
is_right word (mnemonics.Atomic o form) = bytes_eq (atomic_name o form.double ++ ordering form.acquire form.release) word
is_right word mnemonics.Fence = bytes_eq (codes "fence") word
is_right word mnemonics.FenceTso = bytes_eq (codes "fence.tso") word
is_right word mnemonics.Ecall = bytes_eq (codes "ecall") word
is_right word mnemonics.Ebreak = bytes_eq (codes "ebreak") word
is_right word _ = true

rows_are_right : list_all (λ row. is_right row.0 row.1) instruction_words ≡ true
unfolding instruction_words
rows_are_right = refl

forms_are_right : list_all (λ row. bytes_eq (behind_name row.1) row.0) atomic_forms ≡ true
unfolding atomic_forms
forms_are_right = refl

abbrev has_widths : List ℕ → AtomicOperation → Bool
has_widths front o = bytes_eq (front ++ codes ".w") (atomic_name o false) && bytes_eq (front ++ codes ".d") (atomic_name o true)

operations_are_right : list_all (λ row. has_widths row.0 row.1) atomic_operations ≡ true
unfolding atomic_operations
operations_are_right = refl

-- what holds of each row holds of the one that is found
found : {X : Type 0} (test : List ℕ → X → Bool) (table : List (List ℕ × X)) (word : List ℕ) (x : X) → list_all (λ row. test row.0 row.1) table ≡ true → named_in table word ≡ Some x → test word x ≡ true
found test [] word x all h = absurd (cc)
found test (row ∷ rows) word x all h =
    let parts = and_parts (test row.0 row.1) (list_all (λ row. test row.0 row.1) rows) all in
    go (bytes_eq row.0 word) refl h parts.0 (found test rows word x parts.1)
  where
    go : (b : Bool) → bytes_eq row.0 word ≡ b → cond b (Some row.1) (named_in rows word) ≡ Some x → test row.0 row.1 ≡ true → (named_in rows word ≡ Some x → test word x ≡ true) → test word x ≡ true
    go true e h here later =
        let same : row.0 ≡ word = (bytes_eq-Decides row.0 word).0 e in
        let is : row.1 ≡ x = same_Some row.1 x h in
        subst (λ w. test w x ≡ true) same (subst (λ y. test row.0 y ≡ true) is here)
    go false e h here later = later h

behind : (front word : List ℕ) (form : AtomicForm) → form_behind front word ≡ Some form → front ++ behind_name form ≡ word
behind front word form h = go (bytes_eq (take (length front) word) front) refl h
  where
    go : (b : Bool) → bytes_eq (take (length front) word) front ≡ b → cond b (named_in atomic_forms (drop (length front) word)) None ≡ Some form → front ++ behind_name form ≡ word
    go false e h = absurd (cc)
    go true e h =
        let same : take (length front) word ≡ front = (bytes_eq-Decides (take (length front) word) front).0 e in
        let is : behind_name form ≡ drop (length front) word = (bytes_eq-Decides _ _).0 (found (λ w f. bytes_eq (behind_name f) w) atomic_forms (drop (length front) word) form forms_are_right h) in
        ap₂ ◌++◌ (sym same) is ∙ take-append-drop (length front) word

joined : (front : List ℕ) (o : AtomicOperation) (double : Bool) (rest : List ℕ) → has_widths front o ≡ true → atomic_name o double ++ rest ≡ front ++ (width double ++ rest)
joined front o double rest h =
    let parts = and_parts (bytes_eq (front ++ codes ".w") (atomic_name o false)) (bytes_eq (front ++ codes ".d") (atomic_name o true)) h in
    go double ((bytes_eq-Decides _ _).0 parts.0) ((bytes_eq-Decides _ _).0 parts.1)
  where
    go : (d : Bool) → front ++ codes ".w" ≡ atomic_name o false → front ++ codes ".d" ≡ atomic_name o true → atomic_name o d ++ rest ≡ front ++ (width d ++ rest)
    go false w d = ap (λ name. name ++ rest) (sym w) ∙ append_assoc front (codes ".w") rest
    go true w d = ap (λ name. name ++ rest) (sym d) ∙ append_assoc front (codes ".d") rest

atomic_is_right : (table : List (List ℕ × AtomicOperation)) (word : List ℕ) (m : Mnemonic) → list_all (λ row. has_widths row.0 row.1) table ≡ true → atomic_in table word ≡ Some m → is_right word m ≡ true
atomic_is_right [] word m all h = absurd (cc)
atomic_is_right (row ∷ rows) word m all h =
    let parts = and_parts (has_widths row.0 row.1) (list_all (λ row. has_widths row.0 row.1) rows) all in
    go (form_behind row.0 word) refl h parts.0 (atomic_is_right rows word m parts.1)
  where
    go : (o : Option AtomicForm) → form_behind row.0 word ≡ o → option_or (option_map (mnemonics.Atomic row.1) o) (atomic_in rows word) ≡ Some m → has_widths row.0 row.1 ≡ true → (atomic_in rows word ≡ Some m → is_right word m ≡ true) → is_right word m ≡ true
    go None e h here later = later h
    go (Some form) e h here later =
        let is : mnemonics.Atomic row.1 form ≡ m = same_Some _ m h in
        let rest = ordering form.acquire form.release in
        let spelled : atomic_name row.1 form.double ++ rest ≡ word = joined row.0 row.1 form.double rest here ∙ behind row.0 word form e in
        subst (λ k. is_right word k ≡ true) is ((bytes_eq-Decides (atomic_name row.1 form.double ++ rest) word).1 spelled)

word_is_right : (word : List ℕ) (m : Mnemonic) → mnemonic_named word ≡ Some m → is_right word m ≡ true
unfolding mnemonic_named
word_is_right word m h = go (named_in instruction_words word) refl h
  where
    reserving : (o : Option AtomicForm) → form_behind (codes "lr") word ≡ o → option_or (option_map mnemonics.LoadReserved o) (atomic_in atomic_operations word) ≡ Some m → is_right word m ≡ true
    reserving None e h = atomic_is_right atomic_operations word m operations_are_right h
    reserving (Some form) e h =
        let is : mnemonics.LoadReserved form ≡ m = same_Some _ m h in
        subst (λ k. is_right word k ≡ true) is ((bytes_eq-Decides (codes "lr" ++ behind_name form) word).1 (behind (codes "lr") word form e))

    go : (o : Option Mnemonic) → named_in instruction_words word ≡ o → option_or o (option_or (option_map mnemonics.LoadReserved (form_behind (codes "lr") word)) (atomic_in atomic_operations word)) ≡ Some m → is_right word m ≡ true
    go (Some n) e h = found is_right instruction_words word m rows_are_right (e ∙ h)
    go None e h = reserving (form_behind (codes "lr") word) refl h

-- so a word of the mnemonic is this name
is_named : (name word : List ℕ) → bytes_eq name word ≡ true → word ≡ name
is_named name word h = sym ((bytes_eq-Decides name word).0 h)

pub alone : (f : Format) (word : List ℕ) → mnemonic_named word ≡ Some (mnemonic_of f) → word ≡ word_of f
alone (formats.Registers o x) word h = is_named _ word (word_is_right word _ h)
alone (formats.Immediate o x) word h = is_named _ word (word_is_right word _ h)
alone (formats.Shift o x) word h = is_named _ word (word_is_right word _ h)
alone (formats.Upper o x) word h = is_named _ word (word_is_right word _ h)
alone (formats.Load o x) word h = is_named _ word (word_is_right word _ h)
alone (formats.Store o x) word h = is_named _ word (word_is_right word _ h)
alone (formats.Branch o x) word h = is_named _ word (word_is_right word _ h)
alone (formats.Jal x) word h = is_named _ word (word_is_right word _ h)
alone (formats.Jalr x) word h = is_named _ word (word_is_right word _ h)
alone (formats.LoadReserved false x) word h = is_named _ word (word_is_right word _ h)
alone (formats.LoadReserved true x) word h = is_named _ word (word_is_right word _ h)
alone (formats.Atomic o double x) word h = is_named _ word (word_is_right word _ h)
alone (formats.Fence x) word h = fence (x.fm == 8) h
  where
    fence : (tso : Bool) → mnemonic_named word ≡ Some (cond tso mnemonics.FenceTso mnemonics.Fence) → word ≡ cond tso (codes "fence" ++ codes ".tso") (codes "fence")
    fence true h = is_named _ word (word_is_right word _ h)
    fence false h = is_named _ word (word_is_right word _ h)
alone formats.Ecall word h = is_named _ word (word_is_right word _ h)
alone formats.Ebreak word h = is_named _ word (word_is_right word _ h)
