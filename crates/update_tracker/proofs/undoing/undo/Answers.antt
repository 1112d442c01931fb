-- Each removal is the undoing of its item.
use Rattle.std.proofs.Common.{refl, sym, subst, rules}
use Rattle.std.proofs.lemmas.Int.{to_z-of_z}
use mir.Syntax.{w32}
use mir.Val.{SFits}
use Rattle.sd_base.specs.History.{block_key, free_key, line_key, ports_key, device_key, param_key, timer_key, hold_key, work_key, mask_key}
use Rattle.sd_base.specs.Part.{Loses}
use Rattle.claim_table.specs.ClaimPart.{HoldsClaims}
use Rattle.grant_table.specs.GrantPart.{HoldsGrants}
use Rattle.share_table.specs.Table.{HoldsShares}
use Rattle.timer_table.specs.Table.{HoldsTimers}
use Rattle.update_tracker.specs.declared.undo.Undo.TheVariants as undo
use Rattle.update_tracker.specs.Undoing.{Undoes, LosesLock}
use Rattle.update_tracker.proofs.UndoneLogs.{grants_undone, claims_undone, timers_undone, shares_undone, lock_undone}
use Rattle.update_tracker.proofs.undoing.undo.Goals as goal

pub returns-in-Block-clause-undoes : goal.returns-in-Block-clause-undoes
returns-in-Block-clause-undoes g c =
    let loses : Loses HoldsGrants c.args.kernel.now.grants c.args.owner (block_key) c.remove_block.new.self = c.remove_block.ensures.loses in
    subst (λ i. Undoes c.args.kernel.now c.args.owner i (record c.args.kernel.now { grants = c.remove_block.new.self })) (sym c.in-Block.is)
    (grants_undone c.args.kernel.now c.remove_block.new.self c.args.owner (undo.Block c.in-Block.base) (block_key) (λ task. refl) (refl, refl, refl, refl) refl (refl, refl, refl, refl) loses)

pub returns-in-Free-clause-undoes : goal.returns-in-Free-clause-undoes
returns-in-Free-clause-undoes g c =
    let loses : Loses HoldsGrants c.args.kernel.now.grants c.args.owner (free_key c.in-Free.base) c.remove_free.new.self = c.remove_free.ensures.loses in
    subst (λ i. Undoes c.args.kernel.now c.args.owner i (record c.args.kernel.now { grants = c.remove_free.new.self })) (sym c.in-Free.is)
    (grants_undone c.args.kernel.now c.remove_free.new.self c.args.owner (undo.Free c.in-Free.base) (free_key c.in-Free.base) (λ task. refl) (refl, refl, refl, refl) refl (refl, refl, refl, refl) loses)

pub returns-in-Line-clause-undoes : goal.returns-in-Line-clause-undoes
returns-in-Line-clause-undoes g c =
    let fits-line : SFits w32 c.in-Line.line = search rules in
    let loses : Loses HoldsClaims c.args.kernel.now.claims c.args.owner (line_key c.in-Line.line) c.remove_line.new.self = simp to_z-of_z at c.remove_line.ensures.loses in
    subst (λ i. Undoes c.args.kernel.now c.args.owner i (record c.args.kernel.now { claims = c.remove_line.new.self })) (sym c.in-Line.is)
    (claims_undone c.args.kernel.now c.remove_line.new.self c.args.owner (undo.Line c.in-Line.line) (line_key c.in-Line.line) (λ task. refl) (refl, refl) refl (refl, refl, refl, refl) loses)

pub returns-in-Ports-clause-undoes : goal.returns-in-Ports-clause-undoes
returns-in-Ports-clause-undoes g c =
    let fits-base : SFits w32 c.in-Ports.base = search rules in
    let fits-n : SFits w32 c.in-Ports.n = search rules in
    let loses : Loses HoldsClaims c.args.kernel.now.claims c.args.owner (ports_key c.in-Ports.base c.in-Ports.n) c.remove_ports.new.self = simp to_z-of_z at c.remove_ports.ensures.loses in
    subst (λ i. Undoes c.args.kernel.now c.args.owner i (record c.args.kernel.now { claims = c.remove_ports.new.self })) (sym c.in-Ports.is)
    (claims_undone c.args.kernel.now c.remove_ports.new.self c.args.owner (undo.Ports c.in-Ports.base c.in-Ports.n) (ports_key c.in-Ports.base c.in-Ports.n) (λ task. refl) (refl, refl) refl (refl, refl, refl, refl) loses)

pub returns-in-Device-clause-undoes : goal.returns-in-Device-clause-undoes
returns-in-Device-clause-undoes g c =
    let fits-id : SFits w32 c.in-Device.id = search rules in
    let loses : Loses HoldsClaims c.args.kernel.now.claims c.args.owner (device_key c.in-Device.id) c.remove_device.new.self = simp to_z-of_z at c.remove_device.ensures.loses in
    subst (λ i. Undoes c.args.kernel.now c.args.owner i (record c.args.kernel.now { claims = c.remove_device.new.self })) (sym c.in-Device.is)
    (claims_undone c.args.kernel.now c.remove_device.new.self c.args.owner (undo.Device c.in-Device.id) (device_key c.in-Device.id) (λ task. refl) (refl, refl) refl (refl, refl, refl, refl) loses)

pub returns-in-Param-clause-undoes : goal.returns-in-Param-clause-undoes
returns-in-Param-clause-undoes g c =
    let fits-key : SFits w32 c.in-Param.key = search rules in
    let loses : Loses HoldsClaims c.args.kernel.now.claims c.args.owner (param_key c.in-Param.key) c.remove_param.new.self = simp to_z-of_z at c.remove_param.ensures.loses in
    subst (λ i. Undoes c.args.kernel.now c.args.owner i (record c.args.kernel.now { claims = c.remove_param.new.self })) (sym c.in-Param.is)
    (claims_undone c.args.kernel.now c.remove_param.new.self c.args.owner (undo.Param c.in-Param.key) (param_key c.in-Param.key) (λ task. refl) (refl, refl) refl (refl, refl, refl, refl) loses)

pub returns-in-Timer-clause-undoes : goal.returns-in-Timer-clause-undoes
returns-in-Timer-clause-undoes g c =
    let fits-id : SFits w32 c.in-Timer.id = search rules in
    let loses : Loses HoldsTimers c.args.kernel.now.timers c.args.owner (timer_key c.in-Timer.id) c.remove_timer.new.self = simp to_z-of_z at c.remove_timer.ensures.removed in
    subst (λ i. Undoes c.args.kernel.now c.args.owner i (record c.args.kernel.now { timers = c.remove_timer.new.self })) (sym c.in-Timer.is)
    (timers_undone c.args.kernel.now c.remove_timer.new.self c.args.owner (undo.Timer c.in-Timer.id) (timer_key c.in-Timer.id) (λ task. refl) (refl, refl) (refl, refl, refl, refl) (refl, refl, refl, refl) loses)

pub returns-in-Mask-clause-undoes : goal.returns-in-Mask-clause-undoes
returns-in-Mask-clause-undoes g c =
    let loses : Loses HoldsShares c.args.kernel.now.shares c.args.owner (mask_key c.in-Mask.task) c.remove_mask.new.self = c.remove_mask.ensures.removed in
    subst (λ i. Undoes c.args.kernel.now c.args.owner i (record c.args.kernel.now { shares = c.remove_mask.new.self })) (sym c.in-Mask.is)
    (shares_undone c.args.kernel.now c.remove_mask.new.self c.args.owner (undo.Mask c.in-Mask.task) (mask_key c.in-Mask.task) (λ task. refl) (refl, refl) (refl, refl, refl, refl) refl loses)

pub returns-in-Hold-clause-undoes : goal.returns-in-Hold-clause-undoes
returns-in-Hold-clause-undoes g c =
    let fits-domain : SFits w32 c.in-Hold.domain = search rules in
    let loses : Loses HoldsShares c.args.kernel.now.shares c.args.owner (hold_key c.in-Hold.domain) c.remove_hold.new.self = simp to_z-of_z at c.remove_hold.ensures.removed in
    subst (λ i. Undoes c.args.kernel.now c.args.owner i (record c.args.kernel.now { shares = c.remove_hold.new.self })) (sym c.in-Hold.is)
    (shares_undone c.args.kernel.now c.remove_hold.new.self c.args.owner (undo.Hold c.in-Hold.domain) (hold_key c.in-Hold.domain) (λ task. refl) (refl, refl) (refl, refl, refl, refl) refl loses)

pub returns-in-Work-clause-undoes : goal.returns-in-Work-clause-undoes
returns-in-Work-clause-undoes g c =
    let loses : Loses HoldsShares c.args.kernel.now.shares c.args.owner (work_key) c.remove_work.new.self = c.remove_work.ensures.removed in
    subst (λ i. Undoes c.args.kernel.now c.args.owner i (record c.args.kernel.now { shares = c.remove_work.new.self })) (sym c.in-Work.is)
    (shares_undone c.args.kernel.now c.remove_work.new.self c.args.owner (undo.Work c.in-Work.field-0 c.in-Work.field-1) (work_key) (λ task. refl) (refl, refl) (refl, refl, refl, refl) refl loses)

pub returns-in-Lock-clause-undoes : goal.returns-in-Lock-clause-undoes
returns-in-Lock-clause-undoes g c =
    let fits-lock : SFits w32 c.in-Lock.lock = search rules in
    let loses : LosesLock c.args.kernel.now.shares c.args.owner c.in-Lock.lock c.undo_lock.new.shares = simp to_z-of_z at c.undo_lock.ensures.loses in
    subst (λ i. Undoes c.args.kernel.now c.args.owner i (record c.args.kernel.now { shares = c.undo_lock.new.shares })) (sym c.in-Lock.is)
    (lock_undone c.args.kernel.now c.undo_lock.new.shares c.args.owner c.in-Lock.lock loses)
