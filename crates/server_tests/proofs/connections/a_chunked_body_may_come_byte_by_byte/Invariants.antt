use Rattle.std.proofs.Common.{length}
use Rattle.buffer_pool.specs.Kept.{HeldWithin}
use Rattle.server_tests.proofs.connections.a_chunked_body_may_come_byte_by_byte.Given as goal

abbrev pub invariant-loop-byte : goal.invariant-loop-byte
invariant-loop-byte g l = HeldWithin l.store (length l.conn.numbers)
