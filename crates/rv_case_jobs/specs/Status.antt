-- The exit status of cases (this program's own).

use Rattle.std.specs.Prelude.{ℕ, zero, suc}

-- 0 where none has failed, else 1
abbrev pub cases_status : ℕ → ℕ
cases_status zero = 0
cases_status (suc failed) = 1
