use Rattle.std.proofs.Common.{rules, nat_lt}
use Rattle.std.proofs.lemmas.List.Sorted.{IsPartitionPoint-from_clause}
use Rattle.at_value.proofs.Places.{partitioned, place_from_partition}
use Rattle.at_value.proofs.sorted.place_of.Goals as goal

pub returns-clause-place : goal.returns-clause-place
returns-clause-place c =
    place_from_partition c.args.n c.partition_point.result c.args.items.now c.partition_point.ensures.bound
    (IsPartitionPoint-from_clause (λ p. nat_lt p.0 c.args.n) _ _ c.partition_point.ensures.partitioned (partitioned c.args.n c.args.items.now c.requires) (λ a r f called. search rules))
