-- What has no fault and a row has a number in the range of its field, and is one of the operands that the field takes.

use Rattle.std.proofs.Common.{◌≡◌, ℕ, Bool, true, false, List, [], ◌∷◌, ◌++◌, Option, Some, None, refl, sym, ap, ◌∙◌, ℤ, pos}
use Rattle.std.specs.Prelude.{if◌then◌else◌, not, ◌&&◌}
use Rattle.rv_list_laws.proofs.TruthLemmas.{and_first}
use Rattle.std.proofs.lemmas.Bool.{not-true}
use Rattle.rv_isa_laws.specs.Halves.{hi, lo}
use Rattle.rv_parcel.specs.Mnemonics.{shape_of}
use Rattle.rv_expression_laws.specs.Codes.{scratch_register, not_constant, immediate_range, faulty_if}
use Rattle.rv_statement_laws.specs.declared.mnemonic.Mnemonic.{Mnemonic}
use Rattle.rv_statement_laws.specs.declared.mnemonic.Mnemonic.TheVariants as mnemonics
use Rattle.rv_statement_laws.specs.declared.pseudo.Function.{Function}
use Rattle.rv_statement_laws.specs.declared.pseudo.Function.TheVariants.{Hi, Lo, PcrelHi, PcrelLo}
use Rattle.rv_statement.specs.declared.statement.Operation.{Operation}
use Rattle.rv_statement.specs.declared.statement.Operation.TheVariants as operations
use Rattle.rv_parse_laws.specs.Syntax.{with_constant}
use Rattle.rv_pseudo_laws.specs.Valid.{form_takes, is_upper_20, takes}
use Rattle.rv_pseudo_laws.specs.InstructionFaults.{Worth, Number, Address, Wrong, is_signed_12, takes_address, number_faults, target_faults}
use Rattle.rv_pseudo.specs.Faults.{takes_registers, constant_in, number, mnemonic_of, with_part, known_as, takes_target, is_upper, is_constant_form, is_lower, is_written, is_placed, is_bad_scratch, scratch_of, faults_of}
use Rattle.rv_pseudo.proofs.ParcelRowsLemmas.{beside_away}
pub use Rattle.rv_pseudo_laws.proofs.ParcelsLemmas.{second_of as and_right}

-- ---- what a field takes

abbrev pub is_immediate : Option Mnemonic → Bool
is_immediate (Some (mnemonics.Immediate operation)) = true
is_immediate _ = false

-- whether it takes the low part of an address
abbrev pub is_low : Operation → Bool
is_low (operations.Registers operation rd rs1) = is_immediate (with_constant operation)
is_low (operations.Immediate operation rd rs1) = true
is_low (operations.Load operation rd rs1) = true
is_low (operations.Store operation rs2 rs1) = true
is_low (operations.Jalr rd rs1) = true
is_low (operations.JalrThen rd rs1) = true
is_low (operations.JalrLinked rs1) = true
is_low (operations.Jr rs) = true
is_low _ = false

abbrev pub takes_part : Function → Operation → Bool
takes_part Hi operation = is_upper operation
takes_part PcrelHi operation = is_upper operation
takes_part Lo operation = is_low operation
takes_part PcrelLo operation = is_low operation

-- whether it takes an operand with such a constant, or with an address
abbrev pub is_taken : Operation → Option Function → Option ℤ → Bool
is_taken operation None (Some k) = not (takes_target operation) && takes (mnemonic_of operation) k
is_taken operation None None = takes_target operation
is_taken operation (Some Hi) (Some k) = is_upper operation && takes (mnemonic_of operation) (hi k)
is_taken operation (Some Lo) (Some k) = (not (is_upper operation) && not (takes_target operation)) && takes (mnemonic_of operation) (lo k)
is_taken operation (Some PcrelHi) (Some k) = false
is_taken operation (Some PcrelLo) (Some k) = false
is_taken operation (Some function) None = takes_part function operation

-- ---- tests

away_and : (t b : Bool) → t ≡ false → b ≡ true → (not t && b) ≡ true
away_and true b e f = absurd (cc)
away_and false b e f = f

low_and : (u t b : Bool) → u ≡ false → t ≡ false → b ≡ true → ((not u && not t) && b) ≡ true
low_and true t b e f g = absurd (cc)
low_and false true b e f g = absurd (cc)
low_and false false b e f g = g

-- ---- numbers in range

form_low : (m : Option Mnemonic) → is_immediate m ≡ true → form_takes m (pos 0) ≡ true
form_low (Some (mnemonics.Immediate operation)) e = refl
form_low _ e = absurd (cc)

upper_takes : (operation : Operation) → is_upper operation ≡ true → takes (mnemonic_of operation) (pos 0) ≡ true
upper_takes (operations.Upper operation rd) e = refl
upper_takes _ e = absurd (cc)

low_takes : (operation : Operation) → is_low operation ≡ true → takes (mnemonic_of operation) (pos 0) ≡ true
low_takes (operations.Registers operation rd rs1) e = form_low (with_constant operation) e
low_takes (operations.Immediate operation rd rs1) e = refl
low_takes (operations.Load operation rd rs1) e = refl
low_takes (operations.Store operation rs2 rs1) e = refl
low_takes (operations.Jalr rd rs1) e = refl
low_takes (operations.JalrThen rd rs1) e = refl
low_takes (operations.JalrLinked rs1) e = refl
low_takes (operations.Jr rs) e = refl
low_takes _ e = absurd (cc)

part_takes : (function : Function) (operation : Operation) → takes_part function operation ≡ true → takes (mnemonic_of operation) (pos 0) ≡ true
part_takes Hi operation e = upper_takes operation e
part_takes PcrelHi operation e = upper_takes operation e
part_takes Lo operation e = low_takes operation e
part_takes PcrelLo operation e = low_takes operation e

pub number_takes : (operation : Operation) (function : Option Function) (value : Option ℤ) → is_taken operation function value ≡ true
    → takes_target operation ≡ false → takes (mnemonic_of operation) (number function value) ≡ true
number_takes operation None (Some v) e away = and_right (not (takes_target operation)) _ e
number_takes operation None None e away = absurd (let target = sym away ∙ e in cc)
number_takes operation (Some Hi) (Some v) e away = and_right (is_upper operation) _ e
number_takes operation (Some Lo) (Some v) e away = and_right (not (is_upper operation) && not (takes_target operation)) _ e
number_takes operation (Some PcrelHi) (Some v) e away = absurd (cc)
number_takes operation (Some PcrelLo) (Some v) e away = absurd (cc)
number_takes operation (Some Hi) None e away = part_takes Hi operation e
number_takes operation (Some PcrelHi) None e away = part_takes PcrelHi operation e
number_takes operation (Some Lo) None e away = part_takes Lo operation e
number_takes operation (Some PcrelLo) None e away = part_takes PcrelLo operation e

-- ---- a target stands by itself

pub upper_away : (operation : Operation) → is_upper operation ≡ true → takes_target operation ≡ false
upper_away (operations.Upper operation rd) e = refl
upper_away _ e = absurd (cc)

low_away : (operation : Operation) → is_low operation ≡ true → takes_target operation ≡ false
low_away (operations.Registers operation rd rs1) e = refl
low_away (operations.Immediate operation rd rs1) e = refl
low_away (operations.Load operation rd rs1) e = refl
low_away (operations.Store operation rs2 rs1) e = refl
low_away (operations.Jalr rd rs1) e = refl
low_away (operations.JalrThen rd rs1) e = refl
low_away (operations.JalrLinked rs1) e = refl
low_away (operations.Jr rs) e = refl
low_away _ e = absurd (cc)

part_away : (function : Function) (operation : Operation) → takes_part function operation ≡ true → takes_target operation ≡ false
part_away Hi operation e = upper_away operation e
part_away PcrelHi operation e = upper_away operation e
part_away Lo operation e = low_away operation e
part_away PcrelLo operation e = low_away operation e

low_number_away : (operation : Operation) (k : ℤ) → is_taken operation (Some Lo) (Some k) ≡ true → takes_target operation ≡ false
low_number_away operation k e = not-true _ (and_right (not (is_upper operation)) _ (and_first (not (is_upper operation) && not (takes_target operation)) _ e))

-- what takes a constant has no target
pub good_away : (operation : Operation) (function : Option Function) (k : ℤ) → is_taken operation function (Some k) ≡ true → takes_target operation ≡ false
good_away operation None k e = not-true _ (and_first (not (takes_target operation)) _ e)
good_away operation (Some Hi) k e = upper_away operation (and_first (is_upper operation) _ e)
good_away operation (Some Lo) k e = low_number_away operation k e
good_away operation (Some PcrelHi) k e = absurd (cc)
good_away operation (Some PcrelLo) k e = absurd (cc)

-- a target that is taken has no function
pub target_alone : (operation : Operation) (function : Option Function) (value : Option ℤ) → is_taken operation function value ≡ true
    → takes_target operation ≡ true → function ≡ None
target_alone operation None value e target = refl
target_alone operation (Some f) (Some k) e target = absurd (let both = sym (good_away operation (Some f) k e) ∙ target in cc)
target_alone operation (Some f) None e target = absurd (let both = sym (part_away f operation e) ∙ target in cc)

-- ---- what has no fault and a row is taken

no_fault : (b : Bool) (c : ℕ) → faulty_if (not b) c ≡ [] → b ≡ true
no_fault true c e = refl
no_fault false c e = absurd (cc)

never_last : (cs : List ℕ) (c : ℕ) → cs ++ c ∷ [] ≡ [] → ⊥
never_last [] c e = absurd (cc)
never_last (d ∷ cs) c e = absurd (cc)

append_right : (cs ds : List ℕ) → cs ++ ds ≡ [] → ds ≡ []
append_right [] ds e = e
append_right (c ∷ cs) ds e = absurd (cc)

value_taken : (b : Bool) (operation : Operation) (w : Worth) → takes_target operation ≡ b
    → (if b then scratch_of operation ++ target_faults w else number_faults (mnemonic_of operation) w) ≡ [] → is_taken operation None (constant_in w) ≡ true
value_taken true operation (Number k) target own = absurd (never_last (scratch_of operation) immediate_range own)
value_taken true operation (Address labelled) target own = target
value_taken true operation (Wrong code) target own = absurd (never_last (scratch_of operation) code own)
value_taken false operation (Number k) away own = away_and (takes_target operation) _ away (no_fault _ immediate_range own)
value_taken false operation (Address labelled) away own = absurd (cc)
value_taken false operation (Wrong code) away own = absurd (cc)

upper_known : (operation : Operation) → is_upper operation ≡ true → with_part operation ≡ operation
upper_known (operations.Upper operation rd) e = refl
upper_known _ e = absurd (cc)

upper_taken : (operation : Operation) (k : ℤ) → is_upper operation ≡ true → is_upper_20 (hi k) ≡ true → is_taken (with_part operation) (Some Hi) (Some k) ≡ true
upper_taken (operations.Upper operation rd) k e fits = fits
upper_taken _ k e fits = absurd (cc)

pub part_mnemonic : (operation : Operation) → mnemonic_of (with_part operation) ≡ mnemonic_of operation
part_mnemonic (operations.StoreSymbol operation rs2 rt) = refl
part_mnemonic _ = refl

lower_known : (operation : Operation) → is_lower operation ≡ true → (is_upper (with_part operation) ≡ false) × (takes_target (with_part operation) ≡ false)
lower_known (operations.Registers operation rd rs1) e = (refl, refl)
lower_known (operations.Immediate operation rd rs1) e = (refl, refl)
lower_known (operations.Shift operation rd rs1) e = (refl, refl)
lower_known (operations.Load operation rd rs1) e = (refl, refl)
lower_known (operations.Store operation rs2 rs1) e = (refl, refl)
lower_known (operations.StoreSymbol operation rs2 rt) e = (refl, refl)
lower_known (operations.Jalr rd rs1) e = (refl, refl)
lower_known (operations.JalrThen rd rs1) e = (refl, refl)
lower_known (operations.JalrLinked rs1) e = (refl, refl)
lower_known (operations.Jr rs) e = (refl, refl)
lower_known (operations.Li rd) e = (refl, refl)
lower_known (operations.Parcel operation a b) e = (refl, beside_away (shape_of operation) (takes_registers operation a b) e)
lower_known _ e = absurd (cc)

form_part : (m : Option Mnemonic) → is_constant_form m ≡ true → is_signed_12 m ≡ true → is_immediate m ≡ true
form_part (Some (mnemonics.Immediate operation)) e f = refl
form_part (Some (mnemonics.Shift operation)) e f = absurd (cc)
form_part _ e f = absurd (cc)

low_part : (operation : Operation) → is_lower operation ≡ true → takes_address (mnemonic_of operation) ≡ true → is_low (with_part operation) ≡ true
low_part (operations.Registers operation rd rs1) e f = form_part (with_constant operation) e f
low_part (operations.Immediate operation rd rs1) e f = refl
low_part (operations.Shift operation rd rs1) e f = absurd (cc)
low_part (operations.Load operation rd rs1) e f = refl
low_part (operations.Store operation rs2 rs1) e f = refl
low_part (operations.StoreSymbol operation rs2 rt) e f = refl
low_part (operations.Jalr rd rs1) e f = refl
low_part (operations.JalrThen rd rs1) e f = refl
low_part (operations.JalrLinked rs1) e f = refl
low_part (operations.Jr rs) e f = refl
low_part (operations.Li rd) e f = absurd (cc)
low_part _ e f = absurd (cc)

-- an expression by itself is, also where it has no row
pub value_sound : (operation : Operation) (w : Worth) → faults_of operation None w ≡ [] → is_taken operation None (constant_in w) ≡ true
value_sound operation w own = value_taken (takes_target operation) operation w refl own

pub sound_taken : (operation : Operation) (function : Option Function) (w : Worth) → faults_of operation function w ≡ [] → is_placed operation function ≡ true
    → is_taken (known_as operation function) function (constant_in w) ≡ true
sound_taken operation None w own placed = value_sound operation w own
sound_taken operation (Some Hi) (Number k) own placed = upper_taken operation k placed (no_fault _ immediate_range own)
sound_taken operation (Some Hi) (Address labelled) own placed = ap is_upper (upper_known operation placed) ∙ placed
sound_taken operation (Some Hi) (Wrong code) own placed = absurd (cc)
sound_taken operation (Some PcrelHi) (Number k) own placed = absurd (cc)
sound_taken operation (Some PcrelHi) (Address labelled) own placed = ap is_upper (upper_known operation placed) ∙ placed
sound_taken operation (Some PcrelHi) (Wrong code) own placed = absurd (cc)
sound_taken operation (Some Lo) (Number k) own placed =
    low_and (is_upper (with_part operation)) (takes_target (with_part operation)) _ (lower_known operation placed).0 (lower_known operation placed).1
    (ap (λ m. takes m (lo k)) (part_mnemonic operation) ∙ no_fault _ immediate_range own)
sound_taken operation (Some Lo) (Address labelled) own placed = low_part operation placed (no_fault _ not_constant own)
sound_taken operation (Some Lo) (Wrong code) own placed = absurd (cc)
sound_taken operation (Some PcrelLo) (Number k) own placed = absurd (cc)
sound_taken operation (Some PcrelLo) (Address labelled) own placed = low_part operation placed (no_fault _ not_constant (append_right _ _ own))
sound_taken operation (Some PcrelLo) (Wrong code) own placed = absurd (cc)

part_placed : (operation : Operation) (f : Function) → is_placed operation (Some f) ≡ true → is_placed (with_part operation) (Some f) ≡ true
part_placed (operations.StoreSymbol operation rs2 rt) Hi placed = absurd (cc)
part_placed (operations.StoreSymbol operation rs2 rt) PcrelHi placed = absurd (cc)
part_placed (operations.StoreSymbol operation rs2 rt) Lo placed = refl
part_placed (operations.StoreSymbol operation rs2 rt) PcrelLo placed = refl
part_placed _ f placed = placed

pub known_placed : (operation : Operation) (function : Option Function) → is_placed operation function ≡ true
    → is_placed (known_as operation function) function ≡ true
known_placed operation None placed = placed
known_placed operation (Some f) placed = part_placed operation f placed

-- ---- scratch registers

no_scratch : (b : Bool) (cs : List ℕ) → faulty_if b scratch_register ++ cs ≡ [] → b ≡ false
no_scratch true cs e = absurd (cc)
no_scratch false cs e = refl

target_scratch : (b : Bool) (operation : Operation) (w : Worth) → b ≡ true
    → (if b then scratch_of operation ++ target_faults w else number_faults (mnemonic_of operation) w) ≡ [] → is_bad_scratch operation ≡ false
target_scratch true operation w target own = no_scratch (is_bad_scratch operation) (target_faults w) own
target_scratch false operation w target own = absurd (cc)

-- a target without a fault has a good one
pub good_scratch : (operation : Operation) (function : Option Function) (w : Worth) → faults_of operation function w ≡ [] → function ≡ None
    → takes_target (known_as operation function) ≡ true → is_bad_scratch (known_as operation function) ≡ false
good_scratch operation None w own alone target = target_scratch (takes_target operation) operation w target own
good_scratch operation (Some f) w own alone target = absurd (cc)

-- a target that has a row stands beside registers that are taken
pub target_written : (operation : Operation) (function : Option Function) → function ≡ None → is_placed operation function ≡ true
    → is_written (known_as operation function) ≡ true
target_written operation None alone placed = placed
target_written operation (Some f) alone placed = absurd (cc)
