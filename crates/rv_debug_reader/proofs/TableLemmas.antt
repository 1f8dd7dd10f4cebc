-- The table of a program, instruction by instruction.

use Rattle.std.proofs.Common.{◌≡◌, ◌∙◌, ℕ, ◌≤◌, zero, suc, List, [], ◌∷◌, ◌++◌, length, drop, Option, Some, None, ap, sym, refl, arith, append_assoc, append-nil, map}
use Rattle.std.proofs.lemmas.List.{map-append}
use Rattle.std.specs.Option.{option_map}
use Rattle.rv_debug_laws.specs.LineProgram.{when_read, Registers, Entry, Step, Header, start}
use Rattle.rv_debug_reader.specs.Machine.{instruction}
use Rattle.rv_debug_reader.specs.Table.{appended, line_table}
use Rattle.rv_debug_reader.specs.declared.state.Entry.{Entry as DeclaredEntry}
use Rattle.rv_debug_reader.specs.Views.{entry_of, entries_of}

-- a program's table is what was appended, and what the rest appends from these registers on
pub record IsRead (h : Header) (program : List ℕ) (done : List Entry) (r : Registers) (rest : List ℕ) : Type 0 where
  pub is : line_table h program ≡ option_map (λ later. done ++ later) (appended h r 0 rest)

-- an operand is passed over
passed : (h : Header) (r : Registers) (taken : ℕ) (bytes : List ℕ) → taken ≤ length bytes → appended h r taken bytes ≡ appended h r 0 (drop taken bytes)
unfolding appended
passed h r zero bytes fits = refl
passed h r (suc taken) [] fits = absurd (omega arith)
passed h r (suc taken) (b ∷ bytes) fits = passed h r taken bytes (omega arith)

behind_nothing : (o : Option (List Entry)) → option_map (λ later. [] ++ later) o ≡ o
behind_nothing None = refl
behind_nothing (Some later) = refl

map_some : (done es : List Entry) (o : Option (List Entry)) →
    option_map (λ later. done ++ later) (when_read o (λ later. Some (es ++ later))) ≡ option_map (λ later. (done ++ es) ++ later) o
map_some done es None = refl
map_some done es (Some later) = ap (λ l. Some l) (sym (append_assoc done es later))

pub begun : (h : Header) (program : List ℕ) → IsRead h program [] (start h) program
unfolding line_table
begun h program = record { is = sym (behind_nothing (appended h (start h) 0 program)) }

-- the rest from an instruction on
goes : (h : Header) (r : Registers) (b : ℕ) (behind : List ℕ) (step : Option Step) → instruction h r b behind ≡ step →
    appended h r 0 (b ∷ behind) ≡ when_read step (λ s. when_read (appended h s.registers s.taken behind) (λ later. Some (s.entries ++ later)))
unfolding appended
goes h r b behind step is = ap (λ o. when_read o (λ s. when_read (appended h s.registers s.taken behind) (λ later. Some (s.entries ++ later)))) is

pub one_more : (h : Header) (program : List ℕ) (done new : List Entry) (r : Registers) (rest : List ℕ) (b : ℕ) (behind : List ℕ) (s : Step) →
    IsRead h program done r rest → rest ≡ b ∷ behind → instruction h r b behind ≡ Some s → s.taken ≤ length behind → new ≡ done ++ s.entries →
    IsRead h program new s.registers (drop s.taken behind)
one_more h program done new r rest b behind s read front is fits added = record {
  is = read.is ∙ ap (λ l. option_map (λ later. done ++ later) (appended h r 0 l)) front
      ∙ ap (option_map (λ later. done ++ later)) (goes h r b behind (Some s) is ∙ ap (λ o. when_read o (λ later. Some (s.entries ++ later))) (passed h s.registers s.taken behind fits))
      ∙ map_some done s.entries (appended h s.registers 0 (drop s.taken behind))
      ∙ ap (λ l. option_map (λ later. l ++ later) (appended h s.registers 0 (drop s.taken behind))) (sym added);
}

pub all_read : (h : Header) (program : List ℕ) (done : List Entry) (r : Registers) (rest : List ℕ) → length rest ≡ 0 →
    IsRead h program done r rest → line_table h program ≡ Some done
unfolding appended
all_read h program done r [] none read = read.is ∙ ap (λ l. Some l) (append-nil done)
all_read h program done r (b ∷ rest) none read = absurd (omega arith)

-- what is pushed
pub pushed : (old new : List DeclaredEntry) (entry : DeclaredEntry) (told : Option DeclaredEntry) → new ≡ old ++ entry ∷ [] → told ≡ Some entry →
    map entry_of new ≡ map entry_of old ++ entries_of told
pushed old new entry told is some = rw (is, some) (map-append entry_of old (entry ∷ []))

pub unpushed : (old new : List DeclaredEntry) (told : Option DeclaredEntry) → new ≡ old → told ≡ None →
    map entry_of new ≡ map entry_of old ++ entries_of told
unpushed old new told is none = rw (is, none) (sym (append-nil (map entry_of old)))
