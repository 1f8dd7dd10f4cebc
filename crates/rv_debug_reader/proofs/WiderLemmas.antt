-- What has a meaning by LineProgram alone has the same here.

use Rattle.std.proofs.Common.{◌≡◌, ℕ, ◌+◌, zero, suc, List, [], ◌∷◌, ◌++◌, take, drop, Bool, true, false, Option, Some, None, refl, subst}
use borrow.Author.Tests.{eqb-true}
use Rattle.std.specs.Prelude.{◌==◌, nat_le}
use Rattle.rv_debug_laws.specs.Leb128.{unsigned_at}
use Rattle.rv_debug_laws.specs.LineProgram as program
use Rattle.rv_debug_laws.specs.LineProgram.{Header, Registers, Entry, Step, when_read, extended_instruction, start}
use Rattle.rv_debug_reader.specs.Machine.{extended_by, extended_at, instruction}
use Rattle.rv_debug_reader.specs.Table.{appended, line_table}

none_else : (h : Header) (opcode : ℕ) (operand : List ℕ) (taken : ℕ) (r : Registers) → (opcode == 1) ≡ false → (opcode == 2) ≡ false →
    extended_instruction h (opcode ∷ operand) taken r ≡ None
unfolding extended_instruction
none_else h opcode operand taken r e f = rw (e, f) refl

wider_tests : (h : Header) (opcode : ℕ) (operand : List ℕ) (taken : ℕ) (r : Registers) (s : Step) (one two : Bool) → (opcode == 1) ≡ one → (opcode == 2) ≡ two →
    extended_instruction h (opcode ∷ operand) taken r ≡ Some s → extended_by h (opcode ∷ operand) taken r ≡ Some s
unfolding extended_by
wider_tests h opcode operand taken r s true two e f is = rw e is
wider_tests h opcode operand taken r s false true e f is = rw (e, f) is
wider_tests h opcode operand taken r s false false e f is = absurd (let no : extended_instruction h (opcode ∷ operand) taken r ≡ None = none_else h opcode operand taken r e f in cc)

no_opcode : (h : Header) (taken : ℕ) (r : Registers) → extended_instruction h [] taken r ≡ None
unfolding extended_instruction
no_opcode h taken r = refl

wider_by : (h : Header) (whole : List ℕ) (taken : ℕ) (r : Registers) (s : Step) →
    extended_instruction h whole taken r ≡ Some s → extended_by h whole taken r ≡ Some s
wider_by h [] taken r s is = absurd (let no : extended_instruction h [] taken r ≡ None = no_opcode h taken r in cc)
wider_by h (opcode ∷ operand) taken r s is = wider_tests h opcode operand taken r s (opcode == 1) (opcode == 2) refl refl is

wider_operand : (h : Header) (bytes : List ℕ) (r : Registers) (s : Step) (size : Option (ℕ × ℕ)) →
    when_read size (λ n. extended_instruction h (take n.0 (drop n.1 bytes)) (n.1 + n.0) r) ≡ Some s →
    when_read size (λ n. extended_by h (take n.0 (drop n.1 bytes)) (n.1 + n.0) r) ≡ Some s
wider_operand h bytes r s None is = is
wider_operand h bytes r s (Some n) is = wider_by h (take n.0 (drop n.1 bytes)) (n.1 + n.0) r s is

-- the opcodes that LineProgram leaves without a meaning
no_5 : (h : Header) (r : Registers) (bytes : List ℕ) → nat_le h.opcode_base 5 ≡ false → program.instruction h r 5 bytes ≡ None
unfolding program.instruction
no_5 h r bytes e = rw e refl

no_12 : (h : Header) (r : Registers) (bytes : List ℕ) → nat_le h.opcode_base 12 ≡ false → program.instruction h r 12 bytes ≡ None
unfolding program.instruction
no_12 h r bytes e = rw e refl

no_7 : (h : Header) (r : Registers) (bytes : List ℕ) → nat_le h.opcode_base 7 ≡ false → program.instruction h r 7 bytes ≡ None
unfolding program.instruction
no_7 h r bytes e = rw e refl

no_10 : (h : Header) (r : Registers) (bytes : List ℕ) → nat_le h.opcode_base 10 ≡ false → program.instruction h r 10 bytes ≡ None
unfolding program.instruction
no_10 h r bytes e = rw e refl

no_11 : (h : Header) (r : Registers) (bytes : List ℕ) → nat_le h.opcode_base 11 ≡ false → program.instruction h r 11 bytes ≡ None
unfolding program.instruction
no_11 h r bytes e = rw e refl

-- an opcode of these has no step by LineProgram
none_of : (h : Header) (r : Registers) (bytes : List ℕ) (opcode n : ℕ) (s : Step) → (opcode == n) ≡ true → nat_le h.opcode_base opcode ≡ false →
    (nat_le h.opcode_base n ≡ false → program.instruction h r n bytes ≡ None) → program.instruction h r opcode bytes ≡ Some s → ⊥
none_of h r bytes opcode n s same below none is =
    let e : opcode ≡ n = eqb-true opcode n same in
    let at : nat_le h.opcode_base n ≡ false = subst (λ (k : ℕ). nat_le h.opcode_base k ≡ false) e below in
    let no : program.instruction h r n bytes ≡ None = none at in
    let some : program.instruction h r n bytes ≡ Some s = subst (λ (k : ℕ). program.instruction h r k bytes ≡ Some s) e is in
    cc

-- the rest of the instruction where its opcode is none that is passed over
wider_rest : (h : Header) (r : Registers) (opcode : ℕ) (bytes : List ℕ) (s : Step) → nat_le h.opcode_base opcode ≡ false → (opcode == 0) ≡ false →
    (five twelve seven ten eleven : Bool) → (opcode == 5) ≡ five → (opcode == 12) ≡ twelve → (opcode == 7) ≡ seven → (opcode == 10) ≡ ten → (opcode == 11) ≡ eleven →
    program.instruction h r opcode bytes ≡ Some s → instruction h r opcode bytes ≡ Some s
unfolding instruction
wider_rest h r opcode bytes s below z true b c d f g1 g2 g3 g4 g5 is = absurd (none_of h r bytes opcode 5 s g1 below (no_5 h r bytes) is)
wider_rest h r opcode bytes s below z false true c d f g1 g2 g3 g4 g5 is = absurd (none_of h r bytes opcode 12 s g2 below (no_12 h r bytes) is)
wider_rest h r opcode bytes s below z false false true d f g1 g2 g3 g4 g5 is = absurd (none_of h r bytes opcode 7 s g3 below (no_7 h r bytes) is)
wider_rest h r opcode bytes s below z false false false true f g1 g2 g3 g4 g5 is = absurd (none_of h r bytes opcode 10 s g4 below (no_10 h r bytes) is)
wider_rest h r opcode bytes s below z false false false false true g1 g2 g3 g4 g5 is = absurd (none_of h r bytes opcode 11 s g5 below (no_11 h r bytes) is)
wider_rest h r opcode bytes s below z false false false false false g1 g2 g3 g4 g5 is = rw (below, z, g1, g2, g3, g4, g5) is

wider_standard : (h : Header) (r : Registers) (opcode : ℕ) (bytes : List ℕ) (s : Step) (zero_is : Bool) → nat_le h.opcode_base opcode ≡ false → (opcode == 0) ≡ zero_is →
    program.instruction h r opcode bytes ≡ Some s → instruction h r opcode bytes ≡ Some s
unfolding instruction program.instruction extended_at
wider_standard h r opcode bytes s true below z is =
    let read : when_read (unsigned_at bytes) (λ n. extended_instruction h (take n.0 (drop n.1 bytes)) (n.1 + n.0) r) ≡ Some s = rw (below, z) at is in
    rw (below, z) (wider_operand h bytes r s (unsigned_at bytes) read)
wider_standard h r opcode bytes s false below z is =
    wider_rest h r opcode bytes s below z (opcode == 5) (opcode == 12) (opcode == 7) (opcode == 10) (opcode == 11) refl refl refl refl refl is

wider_opcode : (h : Header) (r : Registers) (opcode : ℕ) (bytes : List ℕ) (s : Step) (is_special : Bool) → nat_le h.opcode_base opcode ≡ is_special →
    program.instruction h r opcode bytes ≡ Some s → instruction h r opcode bytes ≡ Some s
unfolding instruction program.instruction
wider_opcode h r opcode bytes s true e is = rw e (rw e at is)
wider_opcode h r opcode bytes s false e is = wider_standard h r opcode bytes s (opcode == 0) e refl is

wider_instruction : (h : Header) (r : Registers) (opcode : ℕ) (bytes : List ℕ) (s : Step) →
    program.instruction h r opcode bytes ≡ Some s → instruction h r opcode bytes ≡ Some s
wider_instruction h r opcode bytes s is = wider_opcode h r opcode bytes s (nat_le h.opcode_base opcode) refl is

wider_entries : (front table : List Entry) (theirs mine : Option (List Entry)) → ((t : List Entry) → theirs ≡ Some t → mine ≡ Some t) →
    when_read theirs (λ es. Some (front ++ es)) ≡ Some table → when_read mine (λ es. Some (front ++ es)) ≡ Some table
wider_entries front table None mine same is = absurd (let no : None ≡ Some table = is in cc)
wider_entries front table (Some t) mine same is = rw (same t refl) is

-- what a step and the rest give
wider_step : (h : Header) (bytes : List ℕ) (table : List Entry) (theirs mine : Option Step) →
    ((s : Step) → theirs ≡ Some s → mine ≡ Some s) →
    ((s : Step) (t : List Entry) → program.run h s.registers s.taken bytes ≡ Some t → appended h s.registers s.taken bytes ≡ Some t) →
    when_read theirs (λ s. when_read (program.run h s.registers s.taken bytes) (λ es. Some (s.entries ++ es))) ≡ Some table →
    when_read mine (λ s. when_read (appended h s.registers s.taken bytes) (λ es. Some (s.entries ++ es))) ≡ Some table
wider_step h bytes table None mine same rest is = absurd (let no : None ≡ Some table = is in cc)
wider_step h bytes table (Some s) mine same rest is =
    rw (same s refl) (wider_entries s.entries table (program.run h s.registers s.taken bytes) (appended h s.registers s.taken bytes) (λ t. rest s t) is)

wider_run : (h : Header) (r : Registers) (taken : ℕ) (bytes : List ℕ) (table : List Entry) →
    program.run h r taken bytes ≡ Some table → appended h r taken bytes ≡ Some table
unfolding program.run appended
wider_run h r zero [] table is = is
wider_run h r (suc taken) [] table is = is
wider_run h r (suc taken) (b ∷ bytes) table is = wider_run h r taken bytes table is
wider_run h r zero (b ∷ bytes) table is =
    wider_step h bytes table (program.instruction h r b bytes) (instruction h r b bytes)
    (λ s. wider_instruction h r b bytes s) (λ s t. wider_run h s.registers s.taken bytes t) is

pub wider_table : (h : Header) (bytes : List ℕ) (table : List Entry) → program.line_table h bytes ≡ Some table → line_table h bytes ≡ Some table
unfolding program.line_table line_table
wider_table h bytes table is = wider_run h (start h) 0 bytes table is
