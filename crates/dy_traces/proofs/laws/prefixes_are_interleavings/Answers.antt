use Rattle.std.proofs.Common.{◌≡◌, ℕ, ◌<◌, List, take, Some, sym, subst, arith}
use Rattle.std.specs.List.{slice_get}
use Rattle.dy_syntax.specs.Files.{File}
use Rattle.dy_entry.specs.Entries.{Entry}
use Rattle.dy_traces.specs.Following.{MayFollow}
use Rattle.dy_traces.specs.Interleavings.{Interleaves}
use Rattle.dy_traces.proofs.Prefixes.{in_prefix, stands_in_prefix, take_within}
use Rattle.dy_traces.proofs.laws.prefixes_are_interleavings.Goals as goal

follows_in_prefix : (bytes : List ℕ) (file : File) (T : List Entry) (n : ℕ) → Interleaves bytes file T
    → (i : ℕ) (e : Entry) → 0 < i → slice_get (take n T) i ≡ Some e → MayFollow file.decls (take i (take n T)) e
follows_in_prefix bytes file T n is_one i e late at =
    let before = in_prefix T n i e at in
    let within = before.0 in
    subst (λ (X : List Entry). MayFollow file.decls X e) (sym (take_within T i n (omega (arith, within)))) (is_one.follows i e late before.1)

pub returns-clause-prefix : goal.returns-clause-prefix
returns-clause-prefix c = λ bytes file T n is_one some. record {
  reads = is_one.reads;
  well_formed = is_one.well_formed;
  opens = stands_in_prefix T n 0 _ some is_one.opens;
  follows = follows_in_prefix bytes file T n is_one;
}

pub returns-clause-short : goal.returns-clause-short
returns-clause-short c = λ T n short i step e at has. short i step e (in_prefix T n i e at).1 has
