use Rattle.std.proofs.Common.{List, ℕ, [], ◌∷◌, refl, ap, arith}
use Rattle.dy_derive.specs.declared.nodes.Node.TheVariants as code
use Rattle.dy_derive.specs.Nodes.{fact_of}
use Rattle.dy_derive.specs.MirrorKnowledge.{AreAny, AreAt}
use Rattle.dy_derive.proofs.GivenFacts.{bare_more}
use Rattle.dy_derive.proofs.GrownDeductions.{grows_none, grows_unchanged}
use Rattle.dy_derive.proofs.Refusals.{on_err}
use Rattle.dy_derive.proofs.deductions.Deductions.intern_places.Goals as goal

pub returns-in_err-of_session-clause-err : goal.returns-in_err-of_session-clause-err
returns-in_err-of_session-clause-err c =
    let old = c.args.self.now in
    let principal = code.Principal c.args.principal.now in
    let a = c.in_ok-of_principal.of_principal in
    let first = bare_more old old c.intern.new.self [] [] (code.Principal c.new.result) principal a (ap code.Principal c.new.ensures) refl (omega arith)
    (grows_none old (AreAt [] []) (λ facts T deduced. refl)) c.in_ok-of_principal.ensures.ok in
    on_err c.from_residual-in_err-of_session.result _
    (grows_unchanged old c.intern.new.self c.intern-2.new.self (AreAt (a ∷ []) (fact_of [] principal ∷ [])) AreAny first c.in_err-of_session.ensures.err (λ facts are. tt))

pub returns-in_err-of_version-clause-err : goal.returns-in_err-of_version-clause-err
returns-in_err-of_version-clause-err c =
    let old = c.args.self.now in
    let s = c.args.session in
    let principal = code.Principal c.args.principal.now in
    let session = code.Session c.args.principal.now s in
    let a = c.in_ok-of_principal.of_principal in
    let b = c.in_ok-of_session.of_session in
    let first = bare_more old old c.intern.new.self [] [] (code.Principal c.new.result) principal a (ap code.Principal c.new.ensures) refl (omega arith)
    (grows_none old (AreAt [] []) (λ facts T deduced. refl)) c.in_ok-of_principal.ensures.ok in
    let second = bare_more old c.intern.new.self c.intern-2.new.self (a ∷ []) (fact_of [] principal ∷ []) (code.Session c.new-2.result s) session b
    (ap (λ (p : List ℕ). code.Session p s) c.new-2.ensures) refl (omega arith) first c.in_ok-of_session.ensures.ok in
    on_err c.from_residual-in_err-of_version.result _
    (grows_unchanged old c.intern-2.new.self c.intern-3.new.self (AreAt (a ∷ b ∷ []) (fact_of [] principal ∷ fact_of [] session ∷ [])) AreAny second
    c.in_err-of_version.ensures.err (λ facts are. tt))

pub returns-clause-ok : goal.returns-clause-ok
returns-clause-ok c =
    let old = c.args.self.now in
    let s = c.args.session in
    let v = c.args.version in
    let principal = code.Principal c.args.principal.now in
    let session = code.Session c.args.principal.now s in
    let version = code.Version c.args.principal.now s v in
    let a = c.in_ok-of_principal.of_principal in
    let b = c.in_ok-of_session.of_session in
    let first = bare_more old old c.intern.new.self [] [] (code.Principal c.new.result) principal a (ap code.Principal c.new.ensures) refl (omega arith)
    (grows_none old (AreAt [] []) (λ facts T deduced. refl)) c.in_ok-of_principal.ensures.ok in
    let second = bare_more old c.intern.new.self c.intern-2.new.self (a ∷ []) (fact_of [] principal ∷ []) (code.Session c.new-2.result s) session b
    (ap (λ (p : List ℕ). code.Session p s) c.new-2.ensures) refl (omega arith) first c.in_ok-of_session.ensures.ok in
    bare_more old c.intern-2.new.self c.intern-3.new.self (a ∷ b ∷ []) (fact_of [] principal ∷ fact_of [] session ∷ []) (code.Version c.new-3.result s v) version
    c.in_ok-of_version.of_version (ap (λ (p : List ℕ). code.Version p s v) c.new-3.ensures) refl (omega arith) second c.in_ok-of_version.ensures.ok
