use native.Mathlib.Omega.{arith}
use Rattle.table.specs.Plain.{words_of}
use Rattle.rates.proofs.Passing.{few_flows, asked_one, asked_two, asked_three, linked}
use Rattle.rates.proofs.Draft.link.Goals as goal

pub join-a-requires : goal.join-a-requires
join-a-requires c =
    let a = c.args in
    let r = c.record_at-r in
    let flows = c.join_fields-flows in
    asked_one a.self.count a.self.words.now _ a.self.is_draft a.f c.requires (words_of r.result) flows.result r.ensures flows.ensures

pub join-b-requires : goal.join-b-requires
join-b-requires c =
    let a = c.args in
    let r = c.record_at-r in
    let flows = c.join_fields-flows in
    asked_two a.self.count a.self.words.now _ a.self.is_draft a.f c.requires (words_of r.result) flows.result r.ensures flows.ensures

pub join-c-requires : goal.join-c-requires
join-c-requires c =
    let a = c.args in
    let r = c.record_at-r in
    let flows = c.join_fields-flows in
    asked_three a.self.count a.self.words.now _ a.self.is_draft a.f c.requires (words_of r.result) flows.result r.ensures flows.ensures

pub returns : goal.returns
returns c =
    let a = c.args in
    let r = c.record_at-r in
    let flows = c.join_fields-flows in
    linked a.self.count a.self.words.now _ a.self.is_draft a.f c.requires (words_of r.result) flows.result r.ensures flows.ensures
    _ _ _ _ _ _ _ (omega (arith, few_flows a.self.count a.self.words.now _ a.self.is_draft)) c.join-a.ensures c.join-b.ensures c.join-c.ensures
