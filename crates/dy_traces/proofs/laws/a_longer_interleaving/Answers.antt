use Rattle.std.proofs.Common.{◌≡◌, ℕ, ◌<◌, List, [], ◌∷◌, ◌++◌, length, take, Some, inl, inr, sym, subst, ◌∙◌, ap, arith}
use Rattle.std.specs.List.{slice_get}
use Rattle.dy_syntax.specs.Files.{File}
use Rattle.dy_entry.specs.Entries.{Entry}
use Rattle.dy_traces.specs.Following.{MayFollow}
use Rattle.dy_traces.specs.Interleavings.{Interleaves}
use Rattle.dy_traces.proofs.Prefixes.{below_length, in_longer, in_last, in_more, take_before, take_whole}
use Rattle.dy_traces.proofs.laws.a_longer_interleaving.Goals as goal

follows_in_longer : (bytes : List ℕ) (file : File) (T : List Entry) (last : Entry) → Interleaves bytes file T → MayFollow file.decls T last
    → (i : ℕ) (e : Entry) → 0 < i → slice_get (T ++ last ∷ []) i ≡ Some e → MayFollow file.decls (take i (T ++ last ∷ [])) e
follows_in_longer bytes file T last is_one may i e late at = elim (in_more T last i e at) [
  | inl old ↦
      let within = below_length T i e old in
      subst (λ (X : List Entry). MayFollow file.decls X e) (sym (take_before T (last ∷ []) i (omega (arith, within)))) (is_one.follows i e late old)
  | inr new ↦
      let all : take i (T ++ last ∷ []) ≡ T = ap (λ (n : ℕ). take n (T ++ last ∷ [])) new.0 ∙ take_whole T (last ∷ []) in
      subst (λ (X : List Entry). MayFollow file.decls X e) (sym all) (subst (λ (f : Entry). MayFollow file.decls T f) (sym new.1) may)
]

pub returns-clause-longer : goal.returns-clause-longer
returns-clause-longer c = λ bytes file T e is_one may. record {
  reads = is_one.reads;
  well_formed = is_one.well_formed;
  opens = in_longer T (e ∷ []) 0 _ is_one.opens;
  follows = follows_in_longer bytes file T e is_one may;
}

pub returns-clause-follows : goal.returns-clause-follows
returns-clause-follows c = λ bytes file T e some is_one.
    subst (λ (X : List Entry). MayFollow file.decls X e) (take_whole T (e ∷ [])) (is_one.follows (length T) e some (in_last T e))
