-- Instructions after one another.

use Rattle.std.proofs.Common.{◌≡◌, ◌∙◌, ℕ, List, [], ◌∷◌, ◌++◌, length, Option, Some, None, ap, sym, refl, append_assoc, append-nil}
use Rattle.std.specs.Option.{option_map}
use Rattle.rv_debug_laws.specs.LineProgram.{when_read, Registers, Entry, Step, Header, instruction, run, line_table, start}
use Rattle.rv_debug_laws.specs.LineUnit.{header}
use Rattle.rv_debug.specs.Writing.{Does, Writes}

-- an operand is passed over
passed : (h : Header) (r : Registers) (front rest : List ℕ) → run h r (length front) (front ++ rest) ≡ run h r 0 rest
unfolding run
passed h r [] rest = refl
passed h r (b ∷ front) rest = passed h r front rest

as_map : (entries : List Entry) (o : Option (List Entry)) → when_read o (λ later. Some (entries ++ later)) ≡ option_map (λ later. entries ++ later) o
as_map entries None = refl
as_map entries (Some later) = refl

-- one instruction, by its opcode and its operand
pub one : (r after : Registers) (opcode : ℕ) (front : List ℕ) (entries : List Entry) →
    ((rest : List ℕ) → instruction header r opcode (front ++ rest) ≡ Some (record { registers = after; entries = entries; taken = length front })) →
    Does r (opcode ∷ front) entries after
unfolding run
one r after opcode front entries is = record {
  told = λ rest.
      let go : Step → Option (List Entry) = λ step. when_read (run header step.registers step.taken (front ++ rest)) (λ later. Some (step.entries ++ later)) in
      ap (λ o. when_read o go) (is rest)
      ∙ ap (λ o. when_read o (λ later. Some (entries ++ later))) (passed header after front rest)
      ∙ as_map entries (run header after 0 rest);
}

map_twice : (es fs : List Entry) (o : Option (List Entry)) →
    option_map (λ later. es ++ later) (option_map (λ later. fs ++ later) o) ≡ option_map (λ later. (es ++ fs) ++ later) o
map_twice es fs None = refl
map_twice es fs (Some later) = ap (λ l. Some l) (sym (append_assoc es fs later))

map_none : (o : Option (List Entry)) → o ≡ option_map (λ later. [] ++ later) o
map_none None = refl
map_none (Some later) = refl

pub nothing : (r : Registers) → Does r [] [] r
nothing r = record { told = λ rest. map_none (run header r 0 rest) }

pub joined : {r s t : Registers} {a b : List ℕ} {es fs : List Entry} → Does r a es s → Does s b fs t → Does r (a ++ b) (es ++ fs) t
joined {r = r} {s = s} {t = t} {a = a} {b = b} {es = es} {fs = fs} first second = record {
  told = λ rest.
      ap (λ l. run header r 0 l) (append_assoc a b rest) ∙ first.told (b ++ rest)
      ∙ ap (option_map (λ later. es ++ later)) (second.told rest)
      ∙ map_twice es fs (run header t 0 rest);
}

pub wrote_nothing : (old : List ℕ) (r : Registers) → Writes old old r [] r
wrote_nothing old r = record { bytes = []; written = sym (append-nil old); does = nothing r }

pub then_wrote : {old mid new : List ℕ} {r s t : Registers} {es fs : List Entry} → Writes old mid r es s → Writes mid new s fs t → Writes old new r (es ++ fs) t
then_wrote {old = old} first second = record {
  bytes = first.bytes ++ second.bytes;
  written = second.written ∙ ap (λ l. l ++ second.bytes) first.written ∙ append_assoc old first.bytes second.bytes;
  does = joined first.does second.does;
}

-- the table of a whole program
pub whole : (bytes : List ℕ) (entries : List Entry) (after : Registers) → Does (start header) bytes entries after → line_table header bytes ≡ Some entries
unfolding line_table run
whole bytes entries after does =
    ap (λ l. run header (start header) 0 l) (sym (append-nil bytes)) ∙ does.told [] ∙ ap (λ l. Some l) (append-nil entries)

pub before_others : (bytes : List ℕ) (entries : List Entry) → Does (start header) bytes entries (start header) →
    (others : List ℕ) → line_table header (bytes ++ others) ≡ option_map (λ later. entries ++ later) (line_table header others)
unfolding line_table
before_others bytes entries does others = does.told others
