use Rattle.std.proofs.Common.{◌≡◌, List, length, vec_len, None, Some, refl, ap, sym, ◌∙◌, subst, arith}
use Rattle.std.proofs.Math.Logic.{∥∥₁_elim, ∥∥₁_prop}
use Rattle.std.proofs.lemmas.List.{length-map}
use Rattle.dy_syntax.specs.Meaning.{file_of}
use Rattle.dy_entry.specs.Entries.{Start}
use Rattle.dy_entry.specs.declared.entries.Entry as declared
use Rattle.dy_entry.specs.Meaning.{entry_of, entries_of}
use Rattle.dy_eval.specs.Meaning.{standing_of}
use Rattle.dy_core.specs.declared.running.Running.{Running}
use Rattle.dy_core.specs.StepMeaning.{step_of, session_of, start_of}
use Rattle.dy_core.specs.MirrorBooks.{opened_by}
use Rattle.dy_core.proofs.StartRules.{may_start, few_steps}
use Rattle.dy_core.proofs.Beginning.{begun}
use Rattle.dy_core.proofs.books.Book.begin.Goals as goal

pub invariant_of-self-2-clause-holds : goal.invariant_of-self-2-clause-holds
invariant_of-self-2-clause-holds c =
    let file = file_of c.args.self.now.file in
    let entries = c.args.self.now.entries.items in
    let T = entries_of entries in
    let s = step_of c.args.step in
    let may = c.requires.may in
    let r : Running = record { start = c.len-index.result; landed = None; instance = c.in-Ok.instance } in
    let filled : vec_len c.reserve.new.self ≡ length c.reserve.new.self.items = omega (arith, c.reserve.new.self.ok.0) in
    let at_end : c.len-index.result ≡ length T = c.len-index.ensures ∙ filled ∙ ap length c.reserve.ensures.items ∙ sym (length-map entries entry_of) in
    let is_start : entry_of c.start_of.result ≡ start_of s T =
    c.start_of.ensures ∙ ap (λ n. Start s.step s.handler s.principal (session_of s.session n) s.args s.message) at_end in
    let opens : Some (standing_of c.in-Ok.instance) ≡ opened_by file.decls T s =
    subst (λ (es : List declared.Entry). Some (standing_of c.in-Ok.instance) ≡ opened_by file.decls (entries_of es) s) (c.as_slice.ensures.value ∙ c.reserve.ensures.items) c.in-Ok.ensures in
    ∥∥₁_elim c.args.self.now.holds ∥∥₁_prop (λ book. ∣ begun file entries c.reserve.new.self.items c.push_within.new.items.items c.start_of.result
    c.args.self.now.running.items c.reserve-else-is_err.new.self.items c.push_within-2.new.items.items s r
    c.push_within.ensures c.reserve.ensures.items c.push_within-2.ensures c.reserve-else-is_err.ensures.items is_start at_end refl opens
    (λ bytes is_one. c.a_longer_interleaving.ensures.longer bytes file T (start_of s T) is_one
    (may_start file.decls s c.requires.right T may.unused may.opened may.idle may.has_message))
    (λ short. c.a_longer_short_trace.ensures T (start_of s T) short (few_steps file.decls s c.requires.right T)) book ∣₁)
