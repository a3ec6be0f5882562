-- One step after another, the whole absent if a step is.
use Rattle.std.specs.Prelude.{Some, None, Option}

abbrev pub and_then : {X Y : Type 0} → Option X → (X → Option Y) → Option Y
and_then None next = None
and_then (Some x) next = next x
