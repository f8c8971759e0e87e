use Rattle.std.proofs.Common.{◌≡◌, ℕ, ◌+◌, ◌++◌, List, [], ◌∷◌, length, sym, ◌∙◌, subst, ap, arith}
use Rattle.std.proofs.lemmas.List.{length_push}
use Rattle.std.proofs.lemmas.Result.{IfOk-weaker}
use Rattle.onfi_script.specs.declared.row.Row.{Row}
use Rattle.onfi_run.specs.Opening.{AreNew, AreNewPorts, AreOpened}
use Rattle.onfi_run.proofs.Lanes.{opened_with}
use Rattle.onfi_run.proofs.opening.Stage.+open_each.Goals as goal

pub returns-clause-opened : goal.returns-clause-opened
returns-clause-opened g t c =
    let setup = c.args.setup in
    let rows = c.args.rows.now in
    let left = c.pop.new.self.items in
    let lanes = c.in_ok-stage.stage.lanes.items in
    let lane = c.in_ok-lane.lane in
    let number : c.len-channel.result ≡ length left = omega (arith, c.len-channel.ensures) in
    IfOk-weaker c.with_channel.result (λ s. s.lanes.items ≡ lanes ++ lane ∷ []) (λ s. AreOpened setup rows 0 c.args.gates.items s.lanes.items)
    (λ s e. opened_with setup rows c.args.gates.items left c.in-Some.gate lanes s.lanes.items lane c.len-channel.result c.in-Some.ensures.items number
    c.in_ok-stage.ensures.opened c.in_ok-lane.ensures.opened e)
    c.with_channel.ensures.lanes

pub returns-in_default-clause-new : goal.returns-in_default-clause-new
returns-in_default-clause-new g t c =
    let none : length c.args.gates.items ≡ 0 = omega (arith, (rw c.in_default.is at c.pop.ensures.cases).0, c.args.gates.ok) in
    subst (λ n. AreNew c.args.rows.now n c.new.result.stations) (sym none) (c.new.ensures.new c.args.rows.now)

pub returns-clause-new : goal.returns-clause-new
returns-clause-new g t c =
    let rows = c.args.rows.now in
    let left = c.pop.new.self.items in
    let o = c.in_ok-lane in
    let number : c.len-channel.result ≡ length left = omega (arith, c.len-channel.ensures) in
    let new = subst (λ n. AreNewPorts rows n o.ports) number o.ensures.new in
    let stage = c.in_ok-stage in
    let count = ap length c.in-Some.ensures.items ∙ length_push left c.in-Some.gate in
    IfOk-weaker c.with_channel.result
    (λ s. (rows : List Row) (channels : ℕ) → AreNew rows channels stage.stage.stations → AreNewPorts rows channels o.ports → AreNew rows (channels + 1) s.stations)
    (λ s. AreNew rows (length c.args.gates.items) s.stations) (λ s more. subst (λ n. AreNew rows n s.stations) (sym count) (more rows (length left) stage.ensures.new new))
    c.with_channel.ensures.new
