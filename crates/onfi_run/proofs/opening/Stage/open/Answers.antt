use Rattle.std.proofs.Common.{◌≡◌, ◌≤◌, length, take, ap, ◌∙◌, subst, arith}
use Rattle.std.proofs.lemmas.List.{length-take-le}
use Rattle.std.proofs.lemmas.Result.{IfOk-weaker}
use Rattle.onfi_run.specs.Opening.{AreOpened, AreOpenedOn}
use Rattle.onfi_run.specs.Setup.{channels_in}
use Rattle.onfi_run.proofs.Lanes.{opened_count}
use Rattle.onfi_run.proofs.opening.Stage.open.Goals as goal

pub returns-clause-opened : goal.returns-clause-opened
returns-clause-opened g c =
    let rows = c.args.rows.now in
    let setup = c.setup_of-setup.result in
    let gates : c.truncate.new.self.items ≡ take setup.channels c.args.gates.items = c.truncate.ensures.items ∙ ap (λ n. take n c.args.gates.items) c.from.ensures in
    IfOk-weaker c.open_each.result (λ s. AreOpened setup rows 0 c.truncate.new.self.items s.lanes.items) (λ s. AreOpenedOn rows c.args.device.now.chips c.args.way c.args.gates.items s.lanes.items)
    (λ s opened. (setup, c.setup_of-setup.ensures, subst (λ gs. AreOpened setup rows 0 gs s.lanes.items) gates opened))
    c.open_each.ensures.opened

pub returns-clause-count : goal.returns-clause-count
returns-clause-count g c =
    let rows = c.args.rows.now in
    let setup = c.setup_of-setup.result in
    let few : c.from.result ≤ length c.args.gates.items = omega (arith, c.from.ensures, setup.few_channels, c.requires.gates) in
    let gates : length c.truncate.new.self.items ≡ channels_in rows = ap length c.truncate.ensures.items ∙ length-take-le c.from.result c.args.gates.items few ∙ c.from.ensures ∙ c.setup_of-setup.ensures.channels in
    IfOk-weaker c.open_each.result (λ s. AreOpened setup rows 0 c.truncate.new.self.items s.lanes.items) (λ s. length s.lanes.items ≡ channels_in rows)
    (λ s opened. opened_count setup rows 0 c.truncate.new.self.items s.lanes.items opened ∙ gates)
    c.open_each.ensures.opened
