use Rattle.std.proofs.Common.{refl}
use Rattle.rank.specs.Numbers.{numbers_differ, low_bits_differ}
use Rattle.rank.proofs.Lines.{insertion_keeps_order, order_is_unique}
use Rattle.rank.proofs.laws.laws_hold.Goals as goal

pub returns : goal.returns
returns c = record { numbers = numbers_differ; low_bits = low_bits_differ; example = refl; insertion = insertion_keeps_order; unique = order_is_unique }
