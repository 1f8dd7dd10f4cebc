-- The room that a padding in code has: an even count of bytes, 4094 at most, all of them instructions without effect.

use Rattle.std.proofs.Common.{◌≡◌, ℕ, zero, suc, ◌-◌, ◌%◌, ◌^◌, ◌≤◌, Bool, true, false, refl, sym, subst, arith, Option, Some, None}
use Rattle.std.proofs.Math.Nat.{pow-suc}
use Rattle.std.specs.Prelude.{⊤}
use Rattle.rv_expression_laws.specs.Values.{Value}
use Rattle.rv_statement_laws.specs.Statement.{Expression, Directive, Enters, Opens, Binds, Sets, Chooses, Ignored, Aligns, Emits}
use Rattle.rv_unit_laws.specs.Contributions.{Contribution, Nothing, Bytes, Alignment, contribution}
use Rattle.rv_unit_laws.specs.Tables.{alignment_of, contribution_alignment, or_none}
use Rattle.rv_unit_laws.proofs.GrownLemmas.{AlignsToPower, directive_aligned}
use Rattle.rv_source_laws.specs.Sizes.{code_padding}
use Rattle.rv_assemble_laws.specs.LaidStatements.{LaidStatement, IsPaddedIn, DirectiveSize}
use Rattle.rv_assemble.proofs.AlignmentsLemmas.{form_low}

-- ---- counts of bytes

abbrev pub IsRoom : ℕ → Type 0
IsRoom n = (n % 2 ≡ 0) × (n ≤ 4094)

power_room : (k n : ℕ) → n ≡ 2 ^ k → n ≤ 4096 → IsRoom (n - 2)
power_room zero n e low = let f : 2 ^ 0 ≡ 1 = refl in (omega (arith, e, f), omega (arith, low))
power_room (suc k) n e low = let f = pow-suc 2 k in (omega (arith, e, f), omega (arith, low))

room_by : (o : Option ℕ) → AlignsToPower o → or_none o ≤ 4096 → IsRoom (code_padding o)
room_by None h low = (refl, omega arith)
room_by (Some n) (k, e) low = power_room k n e low

contribution_low : (v : Expression → Value) (c : Contribution) → or_none (contribution_alignment v c) ≤ 4096
contribution_low v (Alignment f number) = form_low f (v number)
contribution_low v Nothing = omega arith
contribution_low v (Bytes contents) = omega arith

pub room_of : (v : Expression → Value) (d : Directive) → IsRoom (code_padding (alignment_of v d))
room_of v d = room_by (alignment_of v d) (directive_aligned v d) (contribution_low v (contribution d))

-- ---- of statements

padded_room : (b : Bool) (v : Expression → Value) (s : LaidStatement) (d : Directive) → b ≡ true → IsPaddedIn b s (alignment_of v d) → IsRoom s.bytes
padded_room true v s d e h = subst IsRoom (sym h.0) (room_of v d)
padded_room false v s d e h = absurd (cc)

-- the room of an alignment in a section of code
abbrev pub HasRoom : Contribution → ℕ → Type 0
HasRoom Nothing bytes = ⊤
HasRoom (Bytes contents) bytes = ⊤
HasRoom (Alignment f number) bytes = IsRoom bytes

pub directive_room : (v : Expression → Value) (s : LaidStatement) (multiple : ℕ) (d : Directive) → s.located.home.executable ≡ true → DirectiveSize v s multiple d → HasRoom (contribution d) s.bytes
directive_room v s multiple (Aligns form x) e (a, b, c) = padded_room s.located.home.executable v s (Aligns form x) e c
directive_room v s multiple (Emits contents) e h = tt
directive_room v s multiple (Enters section) e h = tt
directive_room v s multiple (Opens name flags kind) e h = tt
directive_room v s multiple (Binds binding names) e h = tt
directive_room v s multiple (Sets name x) e h = tt
directive_room v s multiple (Chooses choice) e h = tt
directive_room v s multiple Ignored e h = tt
