-- `take_apart` meets its contract: the words before the loop's are taken apart, those left stand as they were.
use Rattle.std.proofs.Common.{◌≡◌, ℕ, ◌/◌, ◌%◌, ◌<◌, ◌≤◌, get_or}
use Rattle.list.specs.Limits.{max_vertices}
use Rattle.edges.proofs.take_apart.Given as goal

abbrev pub invariant-loop-e : goal.invariant-loop-e
invariant-loop-e l =
    record {
      next : (k : ℕ) → k < l.e → get_or l.nexts k 0 ≡ get_or l.initial.words k 0 / max_vertices;
      vertex : (k : ℕ) → k < l.e → get_or l.vertices k 0 ≡ get_or l.initial.words k 0 % max_vertices;
      clear : (k : ℕ) → k < l.e → get_or l.words k 0 ≡ 0;
      left : (k : ℕ) → l.e ≤ k → get_or l.words k 0 ≡ get_or l.initial.words k 0;
    }
