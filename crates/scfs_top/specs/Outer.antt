-- What is known of a source and of a sink.
use Rattle.std.specs.Prelude.{ℕ, List, Option}

-- a source: the bytes that are left, where it tells them, and its counts of ends and of faults
pub record SourceView : Type 0 where
  pub left : Option (List ℕ)
  pub ends : ℕ
  pub faults : ℕ

-- a sink: the bytes written, where it tells them, and its count of faults
pub record SinkView : Type 0 where
  pub written : Option (List ℕ)
  pub faults : ℕ

-- a source by what it tells
abbrev pub source : Option (List ℕ) → (ends faults : ℕ) → SourceView
source left ends faults = record { left = left; ends = ends; faults = faults }

-- a sink by what it tells
abbrev pub sink : Option (List ℕ) → (faults : ℕ) → SinkView
sink written faults = record { written = written; faults = faults }
