-- A buffer after bytes were put over a part of it. Every write to a flash and to a store is one; what is read is `field` of `Bytes`.
use Rattle.std.specs.Prelude.{ℕ, ◌+◌, List, ◌++◌, length, take, drop}

-- `before`, with `bytes` standing from place `at` on and every other byte as it was
unfoldable pub over : ℕ → List ℕ → List ℕ → List ℕ
over at bytes before = take at before ++ (bytes ++ drop (at + length bytes) before)
