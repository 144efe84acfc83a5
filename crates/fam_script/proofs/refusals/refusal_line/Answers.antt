use Rattle.fam_script.proofs.refusals.refusal_line.Goals as goal

pub returns-in-BadGeometry : goal.returns-in-BadGeometry
returns-in-BadGeometry c = rw c.in-BadGeometry.is c.numbers_line.ensures

pub returns-in-TooSmall : goal.returns-in-TooSmall
returns-in-TooSmall c = rw c.in-TooSmall.is c.numbers_line-in-TooSmall.ensures

pub returns-in-ImageSmall : goal.returns-in-ImageSmall
returns-in-ImageSmall c = rw c.in-ImageSmall.is c.number_line.ensures

pub returns-in-HasSuper : goal.returns-in-HasSuper
returns-in-HasSuper c = rw c.in-HasSuper.is c.uuid_line.ensures

pub returns-in-NoLine : goal.returns-in-NoLine
returns-in-NoLine c = rw c.in-NoLine.is c.numbers_line-in-NoLine.ensures

pub returns-in-CopyLimit : goal.returns-in-CopyLimit
returns-in-CopyLimit c = rw c.in-CopyLimit.is c.number_line-in-CopyLimit.ensures

pub returns-in-BadListing : goal.returns-in-BadListing
returns-in-BadListing c = rw c.in-BadListing.is c.number_line-in-BadListing.ensures

pub returns-in-MediaFault : goal.returns-in-MediaFault
returns-in-MediaFault c = rw c.in-MediaFault.is c.number_line-in-MediaFault.ensures
