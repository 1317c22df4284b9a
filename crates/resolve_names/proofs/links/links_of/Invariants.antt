use Rattle.std.proofs.Common.{◌≡◌, ◌<◌, ◌++◌, All, drop}
use Rattle.resolve_names.specs.Gathered.{links_from}
use Rattle.resolve_names.proofs.links.links_of.Given as goal

-- what was added, and the opens that are left
abbrev pub invariant-loop-place : goal.invariant-loop-place
invariant-loop-place l = record {
  links : l.links ++ links_from (drop l.place l.written) (drop l.place l.opens) ≡ links_from l.written l.opens;
  inside : All (λ k. k.instance < l.count) l.links;
}
