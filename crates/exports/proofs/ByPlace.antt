-- What the functions open to C promise of the lists that C lends, by the place of their arguments: a is what they are called with, first to last,
-- r what they answer, s what they leave.
use contract.Lifetimes.{Lfts}
use denote.Triple.Clauses.{AtExit}
use borrow.Fn.Kinds.{Dens, res_t, ended_of}
use Rattle.path.specs.Refusals.{tables_of}
use Rattle.found_links.specs.Given.{Given}
use Rattle.c_answers.specs.Numbered.{RanByNumber, PathRanByNumber, PortRanByNumber, FoundByNumber}
use Rattle.exports.specs.NumberedRuns.{SquareRanByNumber, PencilRanByNumber, ListedByNumber, WorstByNumber}
use Rattle.exports.proofs.whole.bezhantiru_run.Kinds as run-kinds
use Rattle.exports.proofs.whole.bezhantiru_run.Reads as run
use Rattle.exports.proofs.whole_path.bezhantiru_path_run.Kinds as path-kinds
use Rattle.exports.proofs.whole_path.bezhantiru_path_run.Reads as path
use Rattle.exports.proofs.whole_square.bezhantiru_square_run.Kinds as square-kinds
use Rattle.exports.proofs.whole_square.bezhantiru_square_run.Reads as square
use Rattle.exports.proofs.short.bezhantiru_pencil_run.Kinds as pencil-kinds
use Rattle.exports.proofs.short.bezhantiru_pencil_run.Reads as pencil
use Rattle.exports.proofs.short.bezhantiru_short_traces.Kinds as listing-kinds
use Rattle.exports.proofs.short.bezhantiru_short_traces.Reads as listing
use Rattle.exports.proofs.worst_case.bezhantiru_worst_trace.Kinds as worst-kinds
use Rattle.exports.proofs.worst_case.bezhantiru_worst_trace.Reads as worst
use Rattle.exports.proofs.shared_port.bezhantiru_port_run.Kinds as port-kinds
use Rattle.exports.proofs.shared_port.bezhantiru_port_run.Reads as port
use Rattle.exports.proofs.chains.bezhantiru_find_chain.Kinds as find-kinds
use Rattle.exports.proofs.chains.bezhantiru_find_chain.Reads as find
use Rattle.exports.proofs.certificates.bezhantiru_certify.Kinds as certify-kinds
use Rattle.exports.proofs.certificates.bezhantiru_certify.Reads as certify

pub run_by_place : (κs : Lfts 5) (a : Dens κs run-kinds.ps) (r : (res_t run-kinds.r κs).Denot) (s : AtExit (ended_of 5 run-kinds.ps run-kinds.r) κs)
    → run.Learnt κs a r s →
    let (table, (d, (q, (trace, (ins, (drops, (outs, _))))))) = a in
    let (_, (_, (_, (_, (ins', (drops', (outs', _))))))) = s in
    RanByNumber table.now d q trace.now ins.now drops.now outs.now r ins'.now drops'.now outs'.now
run_by_place κs a r s learnt = learnt

pub path_by_place : (κs : Lfts 8) (a : Dens κs path-kinds.ps) (r : (res_t path-kinds.r κs).Denot) (s : AtExit (ended_of 8 path-kinds.ps path-kinds.r) κs)
    → path.Learnt κs a r s →
    let (stages, (first, (second, (third, (fourth, (d, (q, (trace, (ins, (drops, (outs, _))))))))))) = a in
    let (_, (_, (_, (_, (_, (_, (_, (_, (ins', (drops', (outs', _))))))))))) = s in
    PathRanByNumber stages (tables_of stages first.now second.now third.now fourth.now) d q trace.now ins.now drops.now outs.now r ins'.now drops'.now outs'.now
path_by_place κs a r s learnt = learnt

pub square_by_place : (κs : Lfts 5) (a : Dens κs square-kinds.ps) (r : (res_t square-kinds.r κs).Denot) (s : AtExit (ended_of 5 square-kinds.ps square-kinds.r) κs)
    → square.Learnt κs a r s →
    let (square, (d, (q, (trace, (ins, (drops, (outs, _))))))) = a in
    let (_, (_, (_, (_, (ins', (drops', (outs', _))))))) = s in
    SquareRanByNumber square.now d q trace.now ins.now drops.now outs.now r ins'.now drops'.now outs'.now
square_by_place κs a r s learnt = learnt

pub pencil_by_place : (κs : Lfts 5) (a : Dens κs pencil-kinds.ps) (r : (res_t pencil-kinds.r κs).Denot) (s : AtExit (ended_of 5 pencil-kinds.ps pencil-kinds.r) κs)
    → pencil.Learnt κs a r s →
    let (table, (d, (q, (trace, (ins, (drops, (outs, _))))))) = a in
    let (_, (_, (_, (_, (ins', (drops', (outs', _))))))) = s in
    PencilRanByNumber table.now d q trace.now ins.now drops.now outs.now r ins'.now drops'.now outs'.now
pencil_by_place κs a r s learnt = learnt

pub listing_by_place : (κs : Lfts 1) (a : Dens κs listing-kinds.ps) (r : (res_t listing-kinds.r κs).Denot) (s : AtExit (ended_of 1 listing-kinds.ps listing-kinds.r) κs)
    → listing.Learnt κs a r s →
    let (slots, (list, _)) = a in
    let (_, (list', _)) = s in
    ListedByNumber slots list.now r list'.now
listing_by_place κs a r s learnt = learnt

pub worst_by_place : (κs : Lfts 2) (a : Dens κs worst-kinds.ps) (r : (res_t worst-kinds.r κs).Denot) (s : AtExit (ended_of 2 worst-kinds.ps worst-kinds.r) κs)
    → worst.Learnt κs a r s →
    let (table, (d, (q, (n, (p, (N, (list, _))))))) = a in
    let (_, (_, (_, (_, (_, (_, (list', _))))))) = s in
    WorstByNumber table.now d q n p N list.now r list'.now
worst_by_place κs a r s learnt = learnt

pub port_by_place : (κs : Lfts 4) (a : Dens κs port-kinds.ps) (r : (res_t port-kinds.r κs).Denot) (s : AtExit (ended_of 4 port-kinds.ps port-kinds.r) κs)
    → port.Learnt κs a r s →
    let (deadlines, (slots, (capacity, (input, (sent, (late, _)))))) = a in
    let (_, (_, (_, (_, (sent', (late', _)))))) = s in
    PortRanByNumber deadlines.now slots capacity input.now sent.now late.now r sent'.now late'.now
port_by_place κs a r s learnt = learnt

pub find_by_place : (κs : Lfts 5) (a : Dens κs find-kinds.ps) (r : (res_t find-kinds.r κs).Denot) (s : AtExit (ended_of 5 find-kinds.ps find-kinds.r) κs)
    → find.Learnt κs a r s →
    let (table, (d, (q, (trace, (t, (slots, (marks, (amounts, _)))))))) = a in
    let (_, (_, (_, (_, (_, (slots', (marks', (amounts', _)))))))) = s in
    FoundByNumber table.now d q trace.now t slots.now marks.now amounts.now r slots'.now marks'.now amounts'.now
find_by_place κs a r s learnt = learnt

pub certify_by_place : (κs : Lfts 5) (a : Dens κs certify-kinds.ps) (r : (res_t certify-kinds.r κs).Denot) (s : AtExit (ended_of 5 certify-kinds.ps certify-kinds.r) κs)
    → certify.Learnt κs a r s →
    let (table, (d, (q, (trace, (from, (by, (gone, _))))))) = a in
    let (_, (_, (_, (_, (from', (by', (gone', _))))))) = s in
    Given table.now d q trace.now from.now by.now gone.now r from'.now by'.now gone'.now
certify_by_place κs a r s learnt = learnt
