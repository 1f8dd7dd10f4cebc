-- The counts of mnemonics, lines and functions, as sums over the rows of a table. A line's statement
-- and a function are counted at the address where they begin.

use Rattle.std.specs.Prelude.{◌≡◌, ℕ, ◌<◌, ◌==◌, nat_lt, Bool, true, if◌then◌else◌, List, All, count_by, sum_by, bytes_eq}
use Rattle.rv_isa.specs.declared.instruction.Inst.{Inst}
use Rattle.rv_isa.specs.Mnemonics.{mnemonic_text}
use Rattle.rv_counts.specs.declared.rows.CountedInstruction.{CountedInstruction}
use Rattle.rv_counts.specs.declared.mnemonics.MnemonicCount.{MnemonicCount}
use Rattle.rv_counts.specs.declared.calls.CallCount.{CallCount}
use Rattle.rv_counts.specs.Rows.{capped, sum_of}
use Rattle.rv_counts.specs.Totals.{one_if}

-- the instructions of a mnemonic, and those at an address
abbrev pub of_mnemonic : List ℕ → ℕ → Inst → Bool
of_mnemonic name pc i = bytes_eq (mnemonic_text i) name

abbrev pub at_address : ℕ → ℕ → Inst → Bool
at_address address pc i = pc == address

-- how often those that pass a test were executed, by the rows; 2 ^ 64 - 1 where that would be more
abbrev pub executed_in : List CountedInstruction → (ℕ → Inst → Bool) → ℕ
executed_in rows test = capped (sum_of test (λ row. row.count) rows)

abbrev pub pc_of : CountedInstruction → ℕ
pc_of row = row.pc

-- each key whose number is not 0 stands once in a list, with its number, and no other key stands
-- there; `is` says whether an entry is of a key
pub record IsListOf {T K : Type 0} (is : K → T → Bool) (count : T → ℕ) (number : K → ℕ)
    (list : List T) : Type 0 where
  pub once : (key : K) → count_by (is key) list ≡ one_if (nat_lt 0 (number key))
  pub counted : (key : K) → All (λ t. is key t ≡ true → count t ≡ number key) list

abbrev pub counts_mnemonic : List ℕ → MnemonicCount → Bool
counts_mnemonic name t = bytes_eq t.name.now name

-- the mnemonics that were executed, each with how often
abbrev pub AreExecuted : (number : (ℕ → Inst → Bool) → ℕ) → List MnemonicCount → Type 0
AreExecuted number list =
    IsListOf counts_mnemonic (λ t. t.count) (λ name. number (of_mnemonic name)) list

-- the calls that a list has of an address
abbrev pub calls_if : ℕ → CallCount → ℕ
calls_if address t = if t.address == address then t.count else 0

abbrev pub calls_at : ℕ → List CallCount → ℕ
calls_at address list = sum_by (calls_if address) list

-- the addresses that were called: what the entries of each have is how often it was, and no entry is
-- of one that was not; code that is overwritten has an entry for each instruction that stood there
pub record AreCalled (number : (ℕ → Inst → Bool) → ℕ) (list : List CallCount) : Type 0 where
  pub counted : (address : ℕ) → calls_at address list ≡ number (at_address address)
  pub some : All (λ t. 0 < t.count) list
