use Rattle.std.proofs.Common.{◌≡◌, ◌<◌, sym, subst, append-nil, arith}
use Rattle.listing.specs.Listings.{Holds, Gains}
use Rattle.classes.specs.Tables.{class_count}
use Rattle.play.specs.Charges.{charged_at}
use Rattle.play.specs.Listings.{sums}
use Rattle.play.proofs.Readings.{name_is}
use Rattle.play.proofs.Sums.{sums_more}
use Rattle.play.proofs.player.Player.tell_charges.Goals as goal

pub loop-number-init : goal.loop-number-init
loop-number-init g c = λ bs z. subst (Holds c.args.listing.now) (sym (append-nil bs)) z

pub loop-number-preserved : goal.loop-number-preserved
loop-number-preserved g c =
    let table = c.args.self.now.tree.queue.table in
    let known : c.loop-number.number < (class_count table) = omega (arith, c.loop-number-test.true, c.len-number-end.ensures) in
    sums_more table (charged_at c.args.self.now.charges) c.loop-number.number c.args.listing.now c.loop-number.listing c.push.new.self c.unwrap_or.result c.of.result
    (name_is table c.loop-number.number c.name.result c.unwrap_or.result _ c.name.ensures c.unwrap_or.ensures known) c.of.ensures c.loop-number.invariant c.push.ensures

pub returns : goal.returns
returns g c =
    let all : c.loop-number.number ≡ (class_count c.args.self.now.tree.queue.table) = omega (arith, c.loop-number-test.false, c.loop-number.auto.number-end, c.len-number-end.ensures) in
    subst (λ n. Gains c.args.listing.now (sums c.args.self.now.tree.queue.table (charged_at c.args.self.now.charges) n) c.loop-number.listing) all c.loop-number.invariant
