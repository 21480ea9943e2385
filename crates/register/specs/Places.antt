-- The register as contracts see it: the lines stand in the first `count` of its places.
use Rattle.std.specs.Prelude.{ℕ, List}
use Rattle.register.specs.declared.line.Line.{Line}

pub record Places : Type 0 where
  pub count : ℕ
  pub lines : List Line
