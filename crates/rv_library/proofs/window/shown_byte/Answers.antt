use Rattle.std.proofs.Common.{◌≡◌, ◌+◌, ◌%◌, ◌^◌, ◌<◌, ℕ, ap, arith}
use Rattle.rv_isa_laws.specs.Memory.{Mem, number_at}
use Rattle.rv_memory.specs.HeldPages.{held_pages}
use Rattle.rv_library.proofs.window.shown_byte.Goals as goal

-- the number of one byte is below 256
one_byte : (m : Mem) (a n : ℕ) → n ≡ number_at m a 1 → ((k : ℕ) → k < 1 → m.byte ((a + k) % 2 ^ 64) < 256) → n < 256
one_byte m a n is small =
    let at : (a + 0) % 2 ^ 64 ≡ a % 2 ^ 64 = omega arith in
    let same : m.byte ((a + 0) % 2 ^ 64) ≡ m.byte (a % 2 ^ 64) = ap m.byte at in
    let low : m.byte ((a + 0) % 2 ^ 64) < 256 = small 0 (omega arith) in
    omega (arith, is, low, same)

pub overflow_cast-result : goal.overflow_cast-result
overflow_cast-result c =
    record { fits = one_byte (held_pages c.args.memory.now) c.args.address c.in-Some.number c.in-Some.ensures.number c.in-Some.ensures.bytes }

pub overflow_cast-result-in-Some-try_load : goal.overflow_cast-result-in-Some-try_load
overflow_cast-result-in-Some-try_load c =
    record { fits = one_byte (held_pages c.args.memory.now) c.args.address c.in-Some-try_load.number c.in-Some-try_load.ensures.number c.in-Some-try_load.ensures.bytes }
