mod SatisfiedLaw
